-- Replays, gathered record by record.
use Rattle.std.proofs.Common.{◌≡◌, ℕ, ◌+◌, ◌<◌, List, [], ◌∷◌, ◌++◌, length, get_or, take, sym, ap, subst, ◌∙◌}
use Rattle.std.specs.Prelude.{Some, Result, Ok, Err, IfErr, IfOk}
use Rattle.std.proofs.lemmas.List.{map-append}
use Rattle.std.proofs.lemmas.Option.{slice_get-get_or}
use Rattle.srm_names.proofs.Snoc.{flat_map-snoc}
use Rattle.srm_frames.specs.declared.reading.Record.{Record}
use Rattle.srm_frames.proofs.Elements.{taken_more}
use Rattle.srm_record.specs.declared.fault.RetellFault.{RetellFault}
use Rattle.srm_record.specs.declared.fault.RetellFault.TheVariants as faults
use Rattle.srm_record.specs.Faults.{IsRetellFault}
use Rattle.srm_audit.specs.declared.got.Got.{Got}
use Rattle.srm_gaps.specs.declared.told.Told.{Told}
use Rattle.srm_audited.specs.Sessions.{Replay, IsReplayOf, AreReplaysOf, gots_of, AreOf, Adds}
use Rattle.srm_audited.specs.declared.unjudged.Unjudged.{Unjudged}
use Rattle.srm_audited.specs.declared.unjudged.Unjudged.TheVariants as unjudgeds
use Rattle.srm_audited.specs.Verdicts.{IsStoppedAt, IsUnjudged, IsVerdict, told_of_stop}

replays-snoc : (rs : List Record) (ps : List Replay) (r : Record) (p : Replay) → AreReplaysOf rs ps → IsReplayOf r p → AreReplaysOf (rs ++ r ∷ []) (ps ++ p ∷ [])
replays-snoc [] [] r p all is = (is, tt)
replays-snoc [] (q ∷ ps) r p all is = absurd all
replays-snoc (s ∷ rs) [] r p all is = absurd all
replays-snoc (s ∷ rs) (q ∷ ps) r p (was, all) is = (was, replays-snoc rs ps r p all is)

pub none_of : (rs : List Record) (ts : List Told) (gots : List Got) → rs ≡ [] → ts ≡ [] → gots ≡ [] → AreOf rs ts gots
none_of rs ts gots empty none nothing = record { replays = []; each = subst (λ (xs : List Record). AreReplaysOf xs []) (sym empty) tt; told = none; lists = nothing }

pub one_more_of : (rs : List Record) (at : ℕ) (r : Record) (ts us : List Told) (gots more : List Got) → at < length rs → r ≡ get_or rs at r → AreOf (take at rs) ts gots → Adds r ts gots us more
    → AreOf (take (at + 1) rs) us more
one_more_of rs at r ts us gots more there is so adds = record {
  replays = so.replays ++ adds.replay ∷ [];
  each = subst (λ (xs : List Record). AreReplaysOf xs (so.replays ++ adds.replay ∷ [])) (sym (taken_more rs at r there is)) (replays-snoc (take at rs) so.replays r adds.replay so.each adds.is);
  told = adds.told ∙ ap (λ (xs : List Told). xs ++ adds.replay.told ∷ []) so.told ∙ sym (map-append (λ (p : Replay). p.told) so.replays (adds.replay ∷ []));
  lists = adds.lists ∙ ap (λ (xs : List Got). xs ++ gots_of adds.replay) so.lists ∙ sym (flat_map-snoc gots_of so.replays adds.replay);
}

-- the first record that gives no replay
pub stopped_at : (rs : List Record) (place : ℕ) (fault : RetellFault) (r : Record) (ts : List Told) (gots : List Got) → place < length rs → r ≡ get_or rs place r → AreOf (take place rs) ts gots → IsRetellFault r fault → IsStoppedAt rs place fault
stopped_at rs place fault r ts gots there is so why = record { stopped = r; here = slice_get-get_or rs place r there ∙ ap Some (sym is); why = why; told = ts; gots = gots; before = so }

-- and what is said then
pub stop_told : (rs : List Record) (place : ℕ) (fault : RetellFault) → IsStoppedAt rs place fault → IfOk (told_of_stop place fault) (IsVerdict rs)
stop_told rs place (faults.Untold line) stopped = stopped
stop_told rs place (faults.TooMuch line) stopped = tt
stop_told rs place faults.Memory stopped = tt

pub stop_unjudged : (rs : List Record) (place : ℕ) (fault : RetellFault) → IsStoppedAt rs place fault → IfErr (told_of_stop place fault) (IsUnjudged rs)
stop_unjudged rs place (faults.Untold line) stopped = tt
stop_unjudged rs place (faults.TooMuch line) stopped = stopped
stop_unjudged rs place faults.Memory stopped = tt

pub unjudged_by_memory : {T : Type 0} (rs : List Record) (r : Result T Unjudged) → IfErr r (λ fault. fault ≡ unjudgeds.Memory) → IfErr r (IsUnjudged rs)
unjudged_by_memory rs (Ok v) memory = tt
unjudged_by_memory rs (Err fault) memory = subst (IsUnjudged rs) (sym memory) tt
