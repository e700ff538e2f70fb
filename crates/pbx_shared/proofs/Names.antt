-- The names that the walks cite, passed on.
pub use Rattle.std.proofs.Common.{List, [], ap, refl, sym, ◌∷◌, ◌≡◌}
pub use Rattle.std.proofs.Handle.{heap_val}
pub use Rattle.std.proofs.VecSteps.Shapes.{after}
pub use Rattle.std.proofs.raw_atomic.Walks.{leaves}
pub use Rattle.std.specs.contracts.impls.GlobalAllocator.TheImpl.{ghosts}
pub use base.Fml.{flft, ftok, ftrue}
pub use base.Logic.{emp}
pub use base.Mask.{every}
pub use contract.BorrowLft.{◌⊑◌}
pub use contract.Monad.{fact, fact_i}
pub use contract.Running.{tables}
pub use denote.Exit.{no, yes}
pub use denote.Memory.{lone}
pub use denote.Param.{layouts, param}
pub use denote.RattleType.{RattleType, owns}
pub use denote.RawPtr.{Ptr, ptr_val}
pub use denote.Signature.{plain, types_at}
pub use denote.Steps.{heard, nothing}
pub use denote.Triple.Walked.{Goes-dropped, Stays, stay_dropped, walk_of}
pub use mir.MapTy.{inst_fn}
pub use mir.Syntax.{Args, Fn, a_type}
pub use mir.Val.{Val}
pub use prog.Wp.{Env}
pub use types.ByLocal.{alloc_all, env, free_all, get, get_in, is, look_at, pass_all, sets, sets_last, through}
pub use types.Kit.{ !, Sq, at_ret, await, by, drop, fjoin, fsplit, join, keep, later, move, prop, qed, raw, rewrite, split, use0, use1, ‵, ◌$◌, ◌∵◌, ◌⊛◌}
pub use types.Part.{agg, sub, whole}
pub use types.Run.{and_then, bin, blocks, branches, enter, exec, first, fld, lit, load, look, no_more, of_opd, returns, skips, stop}
