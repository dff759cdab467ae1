-- A turn of its parts.
use Rattle.std.proofs.Common.{◌≡◌, ℕ, ◌+◌, ◌<◌, ◌||◌, Bool, true, false, refl, ap, sym, ◌∙◌, subst, inl, inr, add-one}
use Rattle.std.specs.Prelude.{Option, Result, Ok, Err, MatchResult, IsErrAnd, ◌&&◌, is_ok}
use Rattle.std.specs.Bool.{OnTrue}
use Rattle.srm_names.specs.declared.limits.TheConstants.{PAGES}
use Rattle.srm_pages.specs.Ends.{is_drained}
use Rattle.srm_world.specs.Traces.{Journal}
use Rattle.srm_node.specs.declared.fault.NodeFault.{NodeFault}
use Rattle.srm_node.specs.declared.fault.NodeFault.TheVariants.{Wire, Memory, Turns}
use Rattle.srm_node.specs.declared.fault.OutOfMemory.{OutOfMemory}
use Rattle.srm_wire.specs.Wires.{CountsIf, RoseOrFull}
use Rattle.srm_names.specs.Moments.{has_come}
use Rattle.srm_node.specs.Calls.{Calls}
use Rattle.srm_node.specs.Parts.{strokes_after, is_to_leave, still_asked, Leaves}
use Rattle.srm_node.specs.Nodes.{NodeView, has_ended}
use Rattle.srm_node.specs.Turns.{ReadsNow, HearsNow, LooksNow, DrawsNow, LeavesNow, ShowsNow, TicksNow, GivesNow, HearsCut, DrawsCut, ShowsCut, GivesCut, IsCut, TurnToLeaving, TurnToShowing, TurnToTick, Turned, TurnedDeaf, TurnEnds, Paused, RunsOf, WholeTurns, RunEnds}
use Rattle.srm_wire.proofs.Telling.{counts_on}

-- a node that leaves isn't to leave again, unless memory ran out
pub leaves_now : {X C : Type 0} (now : ℕ) (none_left drained is_due_now leaves ok : Bool) (n : NodeView X C) (k : Journal) (asked : Option ℕ) (r : Result (Unit {0}) OutOfMemory)
    → drained ≡ is_drained n.well → is_due_now ≡ has_come now n.asked → leaves ≡ (none_left && (drained && is_due_now)) → ok ≡ is_ok r → asked ≡ still_asked (leaves && ok) n.asked
    → MatchResult r (λ _. Leaves now leaves n.journal k) (λ _. k ≡ n.journal) → MatchResult r (λ _. LeavesNow now none_left n (record n { journal = k; asked = asked })) (λ _. record n { journal = k; asked = asked } ≡ n)
leaves_now now none_left drained is_due_now leaves ok n k asked (Ok u) empty due is left still leave = record {
  leaves = subst (λ b. Leaves now b n.journal k) to_leave leave;
  same = ap (λ a. record n { journal = k; asked = a }) (still ∙ ap (λ b. still_asked (leaves && b) n.asked) left ∙ ap (λ b. still_asked b n.asked) (whole leaves ∙ to_leave));
}
  where
    to_leave : leaves ≡ is_to_leave none_left (is_drained n.well) n.asked now
    to_leave = is ∙ ap (λ b. none_left && (drained && b)) due ∙ ap (λ b. none_left && (b && has_come now n.asked)) empty

    whole : (b : Bool) → (b && true) ≡ b
    whole true = refl
    whole false = refl
leaves_now now none_left drained is_due_now leaves ok n k asked (Err e) empty due is left still same =
    ap (λ a. record n { journal = k; asked = a }) (still ∙ ap (λ b. still_asked (leaves && b) n.asked) left ∙ ap (λ b. still_asked b n.asked) (none leaves)) ∙ ap (λ j. record n { journal = j }) same
  where
    none : (b : Bool) → (b && false) ≡ false
    none true = refl
    none false = refl

ends_cut : {X C : Type 0} (calls : Calls X C) (r : Result (Unit {0}) NodeFault) (a b : NodeView X C) → IsErrAnd r (λ fault. fault ≡ Memory) → IsCut calls a b → TurnEnds calls r a b
ends_cut calls (Ok _) a b is cut = absurd is
ends_cut calls (Err fault) a b is cut = subst (λ f. TurnEnds calls (Err f) a b) (sym is) cut

-- The turn was cut in one of its parts. The fault is what the code made of running out of memory.
pub cut_hearing : {X C : Type 0} (calls : Calls X C) (now : ℕ) (a r b : NodeView X C) (x : Result (Unit {0}) NodeFault) → IsErrAnd x (λ fault. fault ≡ Memory) → ReadsNow calls.reads now a r → HearsCut calls.receives now r b → TurnEnds calls x a b
cut_hearing calls now a r b x is c h = ends_cut calls x a b is (inl (record { now = now; read = r; reads = c; hears = h }))

pub cut_drawing : {X C : Type 0} (calls : Calls X C) (now n most : ℕ) (u : Bool) (a r b l c : NodeView X C) (x : Result (Unit {0}) NodeFault) → IsErrAnd x (λ fault. fault ≡ Memory) → ReadsNow calls.reads now a r → HearsNow calls.receives now n u r b → LooksNow b l → most ≡ strokes_after n → DrawsCut now most l c → TurnEnds calls x a c
cut_drawing calls now n most u a r b l c x is t h k few d = ends_cut calls x a c is (inr (inl (record { now = now; unheard = u; came = n; most = most; read = r; heard = b; looked = l; reads = t; hears = h; looks = k; room = few; draws = d })))

pub cut_leaving : {X C : Type 0} (calls : Calls X C) (now n most : ℕ) (u w : Bool) (a r b l c d : NodeView X C) (x : Result (Unit {0}) NodeFault) → IsErrAnd x (λ fault. fault ≡ Memory) → ReadsNow calls.reads now a r → HearsNow calls.receives now n u r b → LooksNow b l → most ≡ strokes_after n → DrawsNow now most w l c → d ≡ c → TurnEnds calls x a d
cut_leaving calls now n most u w a r b l c d x is t h k few y same =
    ends_cut calls x a d is (inr (inr (inl (record { now = now; none_left = w; unheard = u; came = n; most = most; read = r; heard = b; looked = l; reads = t; hears = h; looks = k; room = few; draws = subst (λ x. DrawsNow now most w l x) (sym same) y }))))

turned_to_leaving : {X C : Type 0} (calls : Calls X C) (now n most : ℕ) (u w : Bool) (a r b l c d : NodeView X C) → ReadsNow calls.reads now a r → HearsNow calls.receives now n u r b → LooksNow b l → most ≡ strokes_after n → DrawsNow now most w l c → LeavesNow now w c d → TurnToLeaving calls now u a d
turned_to_leaving calls now n most u w a r b l c d t h k few y q = record { none_left = w; came = n; most = most; read = r; heard = b; looked = l; drawn = c; reads = t; hears = h; looks = k; room = few; draws = y; leaves = q }

pub cut_showing : {X C : Type 0} (calls : Calls X C) (now n most : ℕ) (u w : Bool) (a r b l c d m : NodeView X C) (x : Result (Unit {0}) NodeFault) → IsErrAnd x (λ fault. fault ≡ Memory) → ReadsNow calls.reads now a r → HearsNow calls.receives now n u r b → LooksNow b l → most ≡ strokes_after n → DrawsNow now most w l c → LeavesNow now w c d → ShowsCut d m → TurnEnds calls x a m
cut_showing calls now n most u w a r b l c d m x is t h k few y q z = ends_cut calls x a m is (inr (inr (inr (inl (record { now = now; unheard = u; left = d; to_leaving = turned_to_leaving calls now n most u w a r b l c d t h k few y q; shows = z })))))

turned_to_showing : {X C : Type 0} (calls : Calls X C) (now n most : ℕ) (u w : Bool) (a r b l c d m : NodeView X C) → ReadsNow calls.reads now a r → HearsNow calls.receives now n u r b → LooksNow b l → most ≡ strokes_after n → DrawsNow now most w l c → LeavesNow now w c d → ShowsNow now d m → TurnToShowing calls now u a m
turned_to_showing calls now n most u w a r b l c d m t h k few y q z = record { left = d; to_leaving = turned_to_leaving calls now n most u w a r b l c d t h k few y q; shows = z }

pub cut_ticking : {X C : Type 0} (calls : Calls X C) (now n most : ℕ) (u w : Bool) (a r b l c d m e : NodeView X C) (x : Result (Unit {0}) NodeFault) → IsErrAnd x (λ fault. fault ≡ Memory) → ReadsNow calls.reads now a r → HearsNow calls.receives now n u r b → LooksNow b l → most ≡ strokes_after n → DrawsNow now most w l c → LeavesNow now w c d → ShowsNow now d m → e ≡ m
    → TurnEnds calls x a e
cut_ticking calls now n most u w a r b l c d m e x is t h k few y q z same = ends_cut calls x a e is (inr (inr (inr (inr (inl (record { now = now; unheard = u; to_showing = subst (λ x. TurnToShowing calls now u a x) (sym same) (turned_to_showing calls now n most u w a r b l c d m t h k few y q z) }))))))

turned_to_tick : {X C : Type 0} (calls : Calls X C) (now n most : ℕ) (u v w : Bool) (a r b l c d m e : NodeView X C) → ReadsNow calls.reads now a r → HearsNow calls.receives now n u r b → LooksNow b l → most ≡ strokes_after n → DrawsNow now most w l c → LeavesNow now w c d → ShowsNow now d m → TicksNow calls.sends now v m e → TurnToTick calls u v a e
turned_to_tick calls now n most u v w a r b l c d m e t h k few y q z s = record { now = now; shown = m; to_showing = turned_to_showing calls now n most u w a r b l c d m t h k few y q z; ticks = s }

pub cut_giving : {X C : Type 0} (calls : Calls X C) (now n most : ℕ) (u v w : Bool) (a r b l c d m e f : NodeView X C) (x : Result (Unit {0}) NodeFault) → IsErrAnd x (λ fault. fault ≡ Memory) → ReadsNow calls.reads now a r → HearsNow calls.receives now n u r b → LooksNow b l → most ≡ strokes_after n → DrawsNow now most w l c → LeavesNow now w c d → ShowsNow now d m
    → TicksNow calls.sends now v m e → GivesCut e f → TurnEnds calls x a f
cut_giving calls now n most u v w a r b l c d m e f x is t h k few y q z s g = ends_cut calls x a f is (inr (inr (inr (inr (inr (record { unheard = u; unsent = v; ticked = e; to_tick = turned_to_tick calls now n most u v w a r b l c d m e t h k few y q z s; gives = g }))))))

turned : {X C : Type 0} (calls : Calls X C) (now n most : ℕ) (u v w : Bool) (a r b l c d m e f : NodeView X C) → ReadsNow calls.reads now a r → HearsNow calls.receives now n u r b → LooksNow b l → most ≡ strokes_after n → DrawsNow now most w l c → LeavesNow now w c d → ShowsNow now d m → TicksNow calls.sends now v m e → GivesNow PAGES e f → Turned calls u v a f
turned calls now n most u v w a r b l c d m e f t h k few y q z s g = record { ticked = e; to_tick = turned_to_tick calls now n most u v w a r b l c d m e t h k few y q z s; gives = g }

pub turned_whole : {X C : Type 0} (calls : Calls X C) (now n most : ℕ) (u v w : Bool) (a r b l c d m e f : NodeView X C) → ReadsNow calls.reads now a r → HearsNow calls.receives now n u r b → LooksNow b l → most ≡ strokes_after n → DrawsNow now most w l c → LeavesNow now w c d → ShowsNow now d m → TicksNow calls.sends now v m e → GivesNow PAGES e f → (u || v) ≡ false
    → Turned calls false false a f
turned_whole calls now n most true v w a r b l c d m e f t h k few y q z s g none = cc
turned_whole calls now n most false true w a r b l c d m e f t h k few y q z s g none = cc
turned_whole calls now n most false false w a r b l c d m e f t h k few y q z s g none = turned calls now n most false false w a r b l c d m e f t h k few y q z s g

pub turned_deaf : {X C : Type 0} (calls : Calls X C) (now n most : ℕ) (u v w : Bool) (a r b l c d m e f : NodeView X C) → ReadsNow calls.reads now a r → HearsNow calls.receives now n u r b → LooksNow b l → most ≡ strokes_after n → DrawsNow now most w l c → LeavesNow now w c d → ShowsNow now d m → TicksNow calls.sends now v m e → GivesNow PAGES e f → (u || v) ≡ true
    → TurnedDeaf calls a f
turned_deaf {X} {C} calls now n most u v w a r b l c d m e f t h k few y q z s g some = record {
  unheard = u;
  unsent = v;
  some = some;
  turned = turned calls now n most u v w a r b l c d m e f t h k few y q z s g;
  failed = rose (counts_on u v a.failures m.failures f.failures (subst (λ n. CountsIf u n m.failures) first (subst (λ n. CountsIf u r.failures n) (sym same_before) h.failures)) (subst (λ n. CountsIf v m.failures n) (sym same_after) s.sends.failures));
}
  where
    failures : NodeView X C → ℕ
    failures n = n.failures

    first : r.failures ≡ a.failures
    first = ap failures t.same

    same_before : m.failures ≡ b.failures
    same_before = ap failures z.same ∙ ap failures q.same ∙ ap failures y.same ∙ ap failures k.same

    same_after : f.failures ≡ e.failures
    same_after = ap failures g.same

    rose : CountsIf (u || v) a.failures f.failures → RoseOrFull a.failures f.failures
    rose counts = subst (λ (y : Bool). OnTrue y (RoseOrFull a.failures f.failures)) some counts.1

-- RUNS

pub runs_more : {X C : Type 0} (calls : Calls X C) (count : ℕ) (a b p c : NodeView X C) (ended : Bool) → WholeTurns calls count a b → ended ≡ has_ended b → ended ≡ false → Paused calls b p → Turned calls false false p c → WholeTurns calls (count + 1) a c
runs_more calls count a b p c ended h is goes_on paused t = record { turns = subst (λ k. RunsOf calls k a c) (sym (add-one count)) (b, p, h.turns, sym is ∙ goes_on, paused, t) }

runs_into : {X C : Type 0} (calls : Calls X C) (fault : NodeFault) (count limit : ℕ) (a b p c : NodeView X C) (ended : Bool) → count < limit → WholeTurns calls count a b → ended ≡ has_ended b → ended ≡ false → Paused calls b p → TurnEnds calls (Err fault) p c → RunEnds calls (Err fault) limit a c
runs_into calls Wire count limit a b p c ended few h is goes_on paused t = record { count = count; few = few; before = b; paused = p; runs = h; goes_on = sym is ∙ goes_on; pauses = paused; ends = t }
runs_into calls Memory count limit a b p c ended few h is goes_on paused t = record { count = count; few = few; before = b; paused = p; runs = h; goes_on = sym is ∙ goes_on; pauses = paused; ends = t }
runs_into calls Turns count limit a b p c ended few h is goes_on paused t = absurd t

-- the same by what the run answered
pub runs_ended : {X C : Type 0} (calls : Calls X C) (r : Result (Unit {0}) NodeFault) (fault : NodeFault) (count limit : ℕ) (a b p c : NodeView X C) (ended : Bool) → IsErrAnd r (λ e. e ≡ fault) → count < limit → WholeTurns calls count a b → ended ≡ has_ended b → ended ≡ false → Paused calls b p
    → TurnEnds calls (Err fault) p c → RunEnds calls r limit a c
runs_ended calls (Ok u) fault count limit a b p c ended is few h at goes_on paused t = absurd is
runs_ended calls (Err e) fault count limit a b p c ended is few h at goes_on paused t = subst (λ f. RunEnds calls (Err f) limit a c) (sym is) (runs_into calls fault count limit a b p c ended few h at goes_on paused t)
