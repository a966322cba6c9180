use Rattle.std.proofs.Common.{arith}
use Rattle.frame_cut.proofs.Messages.{message_within}
use Rattle.frame_cut.proofs.wrap.Goals as goal

pub overflow_add-len : goal.overflow_add-len
overflow_add-len c = let within = message_within c.args.shape.now c.args.message.now c.requires in omega arith

pub overflow_cast-len : goal.overflow_cast-len
overflow_cast-len c = let within = message_within c.args.shape.now c.args.message.now c.requires in omega arith
