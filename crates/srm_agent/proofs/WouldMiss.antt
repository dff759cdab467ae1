-- What hearing bytes would make missing, by what they are to the member.
use Rattle.std.proofs.Common.{◌≡◌, ◌≢◌, ℕ, Bool, true, false, List, refl, ap, sym, ◌∙◌, subst}
use Rattle.std.specs.Prelude.{Result, Ok, Err, if◌then◌else◌}
use Rattle.srm_codec.specs.declared.datagram.Datagram.{Datagram}
use Rattle.srm_codec.specs.declared.fault.DecodeFault.{DecodeFault}
use Rattle.srm_codec.specs.declared.fault.DecodeFault.TheVariants as decoding
use Rattle.srm_codec.specs.Judging.{judge}
use Rattle.srm_codec.specs.Reading.{IsJudged, takes_memory}
use Rattle.srm_entries.specs.declared.cause.Cause.TheVariants as causes
use Rattle.srm_entries.specs.declared.entry.Entry.{Entry}
use Rattle.srm_entries.specs.declared.entry.Input.{Input}
use Rattle.srm_entries.specs.declared.entry.Input.TheVariants.{Heard, Noise}
use Rattle.srm_entries.specs.declared.entry.Verdict.{Verdict}
use Rattle.srm_entries.specs.declared.entry.Verdict.TheVariants.{Ignored}
use Rattle.srm_entries.specs.Configs.{Config}
use Rattle.srm_entries.specs.Entries.{is_gone}
use Rattle.srm_entries.specs.Hearing.{bytes_heard, read_as}
use Rattle.srm_entries.specs.Outstanding.{AreSoMany, becomes_missing, heard_next}
use Rattle.srm_entries.specs.Verdicts.{verdict_of}
use Rattle.srm_agent.specs.Contents.{AgentContent}
use Rattle.srm_agent.specs.Fits.{AgentFits}
use Rattle.srm_agent.specs.Asking.{WouldMissBy, WouldMissBytes}
use Rattle.srm_agent.proofs.Ignoring.{judged_fault}
use Rattle.srm_agent.proofs.Unknown.{none_by}

by_reading : (c : Config) (past : List Entry) (bytes : List ℕ) (heard : Input × Verdict) (count : ℕ) → bytes_heard c past bytes ≡ heard → AreSoMany (becomes_missing past (heard_next c past heard)) count
    → AreSoMany (becomes_missing past (heard_next c past (bytes_heard c past bytes))) count
by_reading c past bytes heard count e m = subst (λ x. AreSoMany (becomes_missing past (heard_next c past x)) count) (sym e) m

-- to a gone member all is noise
pub gone_misses : {W : Type 0} (a : AgentContent W) (bytes : List ℕ) → is_gone a.state ≡ true → WouldMissBytes bytes a 0
gone_misses a bytes gone = record {
  each = λ c made past h.
      let e : bytes_heard c past bytes ≡ (Noise, Ignored causes.Gone) = ap (λ (b : Bool). if b then (Noise, Ignored causes.Gone) else read_as c past (judge c.session bytes)) (ap is_gone (sym h.state) ∙ gone) in
      by_reading c past bytes (Noise, Ignored causes.Gone) 0 e (none_by past (heard_next c past (Noise, Ignored causes.Gone)) (refl, refl));
}

-- to another one the bytes are what they are judged
module _ {W : Type 0} (a : AgentContent W) (session : ℕ) (bytes : List ℕ) (here : is_gone a.state ≡ false) (same : session ≡ a.config.session) where
  reads : (c : Config) (made : ℕ) (past : List Entry) → AgentFits c made past a → (judged : Result Datagram DecodeFault) → judge session bytes ≡ judged → bytes_heard c past bytes ≡ read_as c past judged
  reads c made past h judged j =
      ap (λ (b : Bool). if b then (Noise, Ignored causes.Gone) else read_as c past (judge c.session bytes)) (ap is_gone (sym h.state) ∙ here)
      ∙ ap (λ (s : Config). read_as c past (judge s.session bytes)) (sym h.config) ∙ ap (λ n. read_as c past (judge n bytes)) (sym same) ∙ ap (read_as c past) j

  pub noise_misses : (fault : DecodeFault) → fault ≢ decoding.Memory → IsJudged takes_memory (Err fault) (judge session bytes) → WouldMissBytes bytes a 0
  noise_misses fault other judged = record {
    each = λ c made past h.
        by_reading c past bytes (Noise, Ignored (causes.Decode fault)) 0 (reads c made past h (Err fault) (judged_fault fault (judge session bytes) other judged))
        (none_by past (heard_next c past (Noise, Ignored (causes.Decode fault))) (refl, refl));
  }

  pub datagram_misses : (g : Datagram) (count : ℕ) → judge session bytes ≡ Ok g → WouldMissBy g a count → WouldMissBytes bytes a count
  datagram_misses g count judged by = record {
    each = λ c made past h. by_reading c past bytes (Heard g, verdict_of c past (Heard g)) count (reads c made past h (Ok g) judged) (by.each c made past h);
  }
