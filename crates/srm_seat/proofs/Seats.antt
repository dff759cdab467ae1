-- The machine values of a `Handle`, and the steps that open and make one. Assumes `Logic`.
use Rattle.std.proofs.Common.{◌≡◌, ℕ, List, [], ◌∷◌, ◌++◌, refl, ap, ◌∙◌, lit<}
use mathlib.Core.Bool.{Bool, true, false}
use seplogic.Ra.Ura.{Ura}
use mir.Syntax.{impl, tnil, dnil, ty_ptr}
use mir.Val.{Val, vptr, vbool, vstruct, vcons, vnil, of_list, has_ty}
use mir.Raw.{raw as bare}
use base.Logic.{never, never_e, fst∗}
use base.Fml.{ftrue}
use types.Logic.{Logic, sem}
use types.Kit.{Item, Goal, Seq, Step, step, ‵, given, ◌$◌, move, drop, use1, learn, fsplit, fjoin, fpick, fpack, feq_i, feq_l}
use denote.RattleType.{RattleType, Valss}
use denote.Memory.{lone}
use denote.RawPtr.{Ptr, block_ptr, null_ptr, ptr_val, in_a_block}
use denote.Steps.{nothing}
use denote.Param.{layout}
use denote.Struct.Struct.{within}
use denote.Struct.Owning.{shape, fields, to}
use Rattle.std.proofs.alloc.Calls.{Al, handle_tells}
use Rattle.std.proofs.cell.Inside.{Good}
use Rattle.std.specs.Box.Ownership.{box_owns}
use Rattle.std.proofs.ResultValues.{and_tt}
use Rattle.std.specs.declared.alloc.Global.{Global}
use Rattle.std.specs.declared.option.Option.{Option}
use Rattle.std.specs.declared.option.Option.TheVariants.{None, Some}
use Rattle.std.specs.contracts.alloc.Global.{the_row as Z}
use Rattle.std.proofs.alloc.Global.TheLaws.{the_row_laws as LZ}
use Rattle.std.specs.contracts.impls.GlobalAllocator.TheImpl.{ghosts}
use Rattle.srm_handle.specs.Held.{held}
use Rattle.srm_seat.specs.contracts.seat.Seat.{the_row as R}
use Rattle.srm_seat.specs.contracts.handle.Handle as handle

abbrev pub three : Val → Val → Val → Val
three u v w = vstruct (vcons u (vcons v (vcons w vnil)))

abbrev H : RattleType
H = handle.the_row

abbrev pub al : Al
al = record { row = Z; laws = LZ; g = ghosts; d = impl [] tnil dnil; drops = impl [] tnil dnil }

pub ptr_good : (p : Ptr) → Good ty_ptr (ptr_val p)
ptr_good (block_ptr b o) = (tt, tt)
ptr_good null_ptr = (tt, record { fits = lit< tt })

pub handle_good : (p : Ptr) (f : Bool) (h : Val) → Good (layout Z) h → Good (layout H) (three (ptr_val p) (vbool f) h)
handle_good (block_ptr b o) f h fits = (and_tt (has_ty (layout Z) h) fits.0, (tt, (tt, (fits.1, tt))))
handle_good null_ptr f h fits = (and_tt (has_ty (layout Z) h) fits.0, (record { fits = lit< tt }, (tt, (fits.1, tt))))

module _ {M : Type 1} {𝓤 : Ura M} {𝓛 : Logic 𝓤} {K : Type 0} {Γ : List (Item 𝓤)} {G : Goal 𝓤 𝓛.H} where
  by_case : K → (a : Global) (f : Bool) (p : Ptr) (v : Option R.Denot)
      → ((b o : ℕ) (x : R.Denot) → f ≡ true → p ≡ block_ptr b o → v ≡ Some x → Seq K 𝓛 (‵ (box_owns (ghosts.dealloc_token a) R (block_ptr b o) x) ∷ Γ) G)
      → (f ≡ false → v ≡ None → Seq K 𝓛 (‵ ftrue ∷ Γ) G)
      → Seq K 𝓛 (‵ (held R a f p v) ∷ Γ) G
  by_case t a true p (Some x) k e = in_a_block t p (λ q. box_owns (ghosts.dealloc_token a) R q x) (fst∗ 𝓤 (never 𝓤) (sem 𝓛 (ghosts.dealloc_token a (bare (lone R.mir)) null_ptr))) (λ b o is. k b o x refl is refl)
  by_case t a true p None k e = use1 𝓛 (given ⊥ (‵ ftrue)) (never_e 𝓤 _) $ learn t (λ no. absurd no)
  by_case t a false p None k e = e refl refl
  by_case t a false p (Some x) k e = use1 𝓛 (given ⊥ (‵ ftrue)) (never_e 𝓤 _) $ learn t (λ no. absurd no)

module _ {M : Type 1} {𝓤 : Ura M} {𝓛 : Logic 𝓤} {K : Type 0} {Γ : List (Item 𝓤)} {G : Goal 𝓤 𝓛.H} where
  pub handle_out : K → (d : H.Denot) (vs : List Val)
      → ((b o : ℕ) (h : Val) (x : R.Denot) → d.value ≡ Some x → vs ≡ three (vptr b o) (vbool true) h ∷ [] → Good (layout Z) h → Seq K 𝓛 (‵ (box_owns (ghosts.dealloc_token d.alloc) R (block_ptr b o) x) ∷ ‵ (Z.own_val d.alloc (h ∷ [])) ∷ Γ) G)
      → ((h : Val) → d.value ≡ None → vs ≡ three (ptr_val d.at) (vbool false) h ∷ [] → Good (layout Z) h → Seq K 𝓛 (‵ ftrue ∷ ‵ (Z.own_val d.alloc (h ∷ [])) ∷ Γ) G)
      → Seq K 𝓛 (‵ (H.own_val d vs) ∷ Γ) G
  handle_out t d vs k e =
      fsplit t $ fpick t (λ vss. fsplit t $ feq_l t (λ ev. fsplit t $ feq_l t (λ ep. fsplit t $ feq_l t (λ ef. fsplit t $ handle_tells al t d.alloc vss.1.1.0 (λ h ea fits. move t (1 ∷ []) $ drop t $ move t (1 ∷ []) $
      let told : (p : Ptr) (f : Bool) → d.at ≡ p → d.is_full ≡ f → vs ≡ three (ptr_val p) (vbool f) h ∷ [] = λ p f is_p is_f.
      ev ∙ (λ i. vstruct (of_list ((ep ∙ ap (λ (q : Ptr). ptr_val q ∷ []) is_p) i ++ ((ef ∙ ap (λ (g : Bool). vbool g ∷ []) is_f) i ++ (ea i ++ [])))) ∷ []) in
      by_case t d.alloc d.is_full d.at d.value
      (λ b o x is_f is_p is_v. k b o h x is_v (told (block_ptr b o) true is_p is_f) fits)
      (λ is_f is_v. e h is_v (told d.at false refl is_f) fits))))))

  pub handle_in : K → (p : Ptr) (f : Bool) (h : Val) (a : Z.Denot) (v : Option R.Denot)
      → Step K 𝓛 (‵ (H.own_val (record { at = p; is_full = f; alloc = a; value = v }) (three (ptr_val p) (vbool f) h ∷ [])) ∷ Γ) G (‵ (held R a f p v) ∷ ‵ (Z.own_val a (h ∷ [])) ∷ Γ) G
  handle_in t p f h a v = step (λ s. let w : Val = three (ptr_val p) (vbool f) h in
      nothing t $ move t (2 ∷ 0 ∷ []) $ fjoin t $ feq_i t (List Val) (vbool f ∷ []) (vbool f ∷ []) refl $ fjoin t $ feq_i t (List Val) (ptr_val p ∷ []) (ptr_val p ∷ []) refl $ fjoin t $ feq_i t (List Val) (w ∷ []) (w ∷ []) refl $ fjoin t $
      fpack t (Valss (fields handle.the_type)) (within (shape handle.the_type) (to handle.the_type (record { at = p; is_full = f; alloc = a; value = v })) (w ∷ [])) (ptr_val p ∷ [], (vbool f ∷ [], (h ∷ [], tt))) $ fjoin t $ s)
