-- What the proofs of functions that make nothing when they run are made of.
pub use Rattle.std.proofs.Common.{[], ◌∷◌, refl, replicate, w16}
pub use Rattle.std.proofs.raw_atomic.Walks.{proved}
pub use base.Fml.{ftrue}
pub use mir.Syntax.{named}
pub use mir.Val.{vstruct, vnil}
pub use types.Kit.{‵, raw, ◌⊛◌, ◌$◌, ◌∵◌, !, qed, keep, move, split, fjoin, suffices, done}
pub use types.Run.{no_more, returns, enter}
pub use types.Part.{agg}
pub use types.ByLocal.{alloc_all, pass_all, free_all, look_at, sets}
pub use denote.Builtin.{u8, u16, RefOf}
pub use denote.Exit.{yes}
pub use denote.Plain.{uint_vals, uint_Tells}
pub use denote.RattleType.{owns}
pub use denote.Ref.{shr_vals, shr_Tells}
pub use denote.Shadow.{pure_i}
pub use denote.Steps.{nothing}
pub use denote.Signature.{plain, types_at}
pub use denote.Triple.Entry.{alive}
pub use denote.Triple.Walked.{says, Stays, stay_dropped, Goes-dropped, walk_of, ends_at}
