use Rattle.std.proofs.Common.{◌≡◌, map, take, true}
use Rattle.std.specs.List.{list_all}
use Rattle.spec_model.specs.Message.{may_stand_in_message}
use Rattle.script_gen.specs.Parts.{as_in_message}
use Rattle.script_gen.proofs.part.written.Given as goal

-- the bytes so far, each of which a message may have
abbrev pub invariant-loop-byte : goal.invariant-loop-byte
invariant-loop-byte l = record {
  bytes : l.bytes.items ≡ map (as_in_message l.framing) (take l.byte-index l.text);
  stand : list_all (may_stand_in_message l.framing) l.bytes.items ≡ true;
}
