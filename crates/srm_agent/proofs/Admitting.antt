-- What an agent admits is what its bucket does, over the run that it fits.
use Rattle.std.proofs.Common.{◌≡◌, ℕ, ◌≤◌, max, Bool, true, false, List, refl, ap, sym, ◌∙◌, subst, arith}
use Rattle.std.specs.Prelude.{Some, None, nat_le}
use Rattle.std.proofs.lemmas.Bool.Decides.{nat_tests}
use Rattle.srm_bucket.specs.declared.class.Class.TheVariants.{New}
use Rattle.srm_bucket.specs.Ticks.{last_moment as last_of_calls}
use Rattle.srm_bucket.specs.Admitting.{admits, Admits, AdmitsFrom}
use Rattle.srm_bucket.specs.Law.{BucketLaw}
use Rattle.srm_bucket.proofs.AdmittingRead.{admits-read}
use Rattle.srm_bucket.proofs.Mapping.{law-read}
use Rattle.srm_entries.specs.declared.entry.Entry.{Entry}
use Rattle.srm_entries.specs.Configs.{Config}
use Rattle.srm_entries.specs.Entries.{last_moment}
use Rattle.srm_entries.specs.Bucket.{entries_of, bucket_calls}
use Rattle.srm_entries.specs.Admitting.{draw_length, admits_draw}
use Rattle.srm_outbox.specs.Outs.{datagram_of}
use Rattle.srm_agent.specs.Contents.{AgentContent}
use Rattle.srm_agent.specs.Fits.{AgentFits}
use Rattle.srm_agent.specs.Admitting.{DrawAdmitted, DrawAdmittedFrom}
use Rattle.srm_agent.proofs.NextDueIdle.{calls_before}

pub so_far : {W : Type 0} (c : Config) (made : ℕ) (past : List Entry) (a : AgentContent W) (h : AgentFits c made past a) → BucketLaw c.rate c.depth (bucket_calls c.me h.bucket.goings)
so_far c made past a h = subst (BucketLaw c.rate c.depth) h.bucket.read (law-read datagram_of c.rate c.depth h.bucket.calls h.bucket.fits.law)

-- the calls of the bucket are those that the entries make
over_entries : {W : Type 0} (c : Config) (made : ℕ) (past : List Entry) (a : AgentContent W) (h : AgentFits c made past a) (bytes now : ℕ)
    → admits c.rate c.depth h.bucket.calls New bytes now ≡ admits c.rate c.depth (bucket_calls c.me h.bucket.goings) New bytes now
over_entries c made past a h bytes now = sym (admits-read datagram_of c.rate c.depth h.bucket.calls New bytes now) ∙ ap (λ cs. admits c.rate c.depth cs New bytes now) h.bucket.read

-- the last moment of the marked entries
last_of : {W : Type 0} (c : Config) (made : ℕ) (past : List Entry) (a : AgentContent W) (h : AgentFits c made past a) → last_moment made (entries_of h.bucket.goings) ≡ a.last
last_of c made past a h = ap (last_moment made) h.bucket.entries ∙ sym h.last

pub admitted : {W : Type 0} (a : AgentContent W) (body bytes now moment : ℕ) (answer : Bool) → bytes ≡ draw_length body → moment ≡ max now a.last → Admits New bytes moment a.bucket answer → DrawAdmitted body now a answer
admitted a body bytes now moment answer length counts admits_at = record {
  each = λ c made past h. record {
    goings = (h.bucket.goings, h.bucket.entries, h.bucket.goes, so_far c made past a h);
    is = admits_at.each c.rate c.depth h.bucket.calls h.bucket.fits ∙ over_entries c made past a h bytes moment
        ∙ ap (λ n. admits c.rate c.depth (bucket_calls c.me h.bucket.goings) New n moment) length
        ∙ ap (λ m. admits c.rate c.depth (bucket_calls c.me h.bucket.goings) New (draw_length body) m) (counts ∙ ap (max now) (sym (last_of c made past a h)));
  };
}

-- from some moment on
module _ {W : Type 0} (a : AgentContent W) (body bytes : ℕ) (length : bytes ≡ draw_length body) where
  same_answer : (c : Config) (made : ℕ) (past : List Entry) (h : AgentFits c made past a) (now : ℕ) → last_moment made past ≤ now
      → admits_draw c made h.bucket.goings body now ≡ admits c.rate c.depth h.bucket.calls New bytes now
  same_answer c made past h now l =
      let at : max now (last_moment made (entries_of h.bucket.goings)) ≡ now = ap (max now) (ap (last_moment made) h.bucket.entries) ∙ omega (arith, l) in
      ap (λ m. admits c.rate c.depth (bucket_calls c.me h.bucket.goings) New (draw_length body) m) at
      ∙ ap (λ n. admits c.rate c.depth (bucket_calls c.me h.bucket.goings) New n now) (sym length) ∙ sym (over_entries c made past a h bytes now)

  pub never_admitted : AdmitsFrom New bytes a.bucket None → DrawAdmittedFrom body a None
  never_admitted none = record {
    each = λ c made past h. record {
      goings = (h.bucket.goings, h.bucket.entries, h.bucket.goes, so_far c made past a h);
      not_before = tt;
      exactly = λ now l.
          let k : last_of_calls h.bucket.calls ≤ last_moment made past = calls_before c made past a h in
          let later : last_of_calls h.bucket.calls ≤ now = omega (arith, k, l) in
          same_answer c made past h now l ∙ (none.each c.rate c.depth h.bucket.calls h.bucket.fits).exactly now later;
    };
  }

  pub admitted_from : (first : ℕ) → AdmitsFrom New bytes a.bucket (Some first) → DrawAdmittedFrom body a (Some (max a.last first))
  admitted_from first some = record {
    each = λ c made past h. record {
      goings = (h.bucket.goings, h.bucket.entries, h.bucket.goes, so_far c made past a h);
      not_before = (let last : a.last ≡ last_moment made past = h.last in omega (arith, last));
      exactly = λ now l.
          let k : last_of_calls h.bucket.calls ≤ last_moment made past = calls_before c made past a h in
          let later : last_of_calls h.bucket.calls ≤ now = omega (arith, k, l) in
          let last : a.last ≤ now = subst (λ n. n ≤ now) (sym h.last) l in
          same_answer c made past h now l ∙ (some.each c.rate c.depth h.bucket.calls h.bucket.fits).exactly now later ∙ same_from first a.last now last;
    };
  }
    where
      same_from : (first last now : ℕ) → last ≤ now → nat_le first now ≡ nat_le (max last first) now
      same_from first last now l = go (nat_le first now) refl
        where
          go : (b : Bool) → nat_le first now ≡ b → nat_le first now ≡ nat_le (max last first) now
          go true e = grind (arith, nat_tests)
          go false e = grind (arith, nat_tests)
