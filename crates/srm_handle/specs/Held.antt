-- What a handle owns: a box where it is full.
use Rattle.std.specs.Prelude.{Bool, true, false}
use base.Fml.{Fml, ftrue, ffalse}
use denote.RattleType.{RattleType}
use denote.RawPtr.{Ptr}
use Rattle.std.specs.declared.alloc.Global.{Global}
use Rattle.std.specs.declared.option.Option.{Option}
use Rattle.std.specs.declared.option.Option.TheVariants.{None, Some}
use Rattle.std.specs.contracts.impls.GlobalAllocator.TheImpl.{ghosts}
use Rattle.std.specs.Box.Ownership.{box_owns}

-- the box at the pointer, where there is one
abbrev pub held : (R : RattleType) → Global → Bool → Ptr → Option R.Denot → Fml
held R a true p (Some x) = box_owns (ghosts.dealloc_token a) R p x
held R a true p None = ffalse
held R a false p None = ftrue
held R a false p (Some x) = ffalse
