mod ComputedRun
mod ComputedWorld
mod EchoRuns
mod TokenRuns
mod Trees
mod Unexplained
