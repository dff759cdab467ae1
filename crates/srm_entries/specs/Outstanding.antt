-- What is outstanding after a list of entries: how much is missing and what comes next, how much hearing would make missing, and what waits to be sent.
use Rattle.std.specs.Prelude.{◌≡◌, ℕ, Bool, not, ◌&&◌, List, [], ◌∷◌, ◌++◌, length, sum_by, Option, None}
use Rattle.srm_names.specs.declared.limits.TheConstants.{MEMBERS}
use Rattle.srm_names.specs.declared.page.Page.{Page}
use Rattle.srm_names.specs.declared.stream.Stream.{Stream}
use Rattle.srm_names.specs.FullName.{FullName}
use Rattle.srm_names.specs.Histories.{count_up}
use Rattle.srm_names.specs.Names.{stream_on, AreExactly}
use Rattle.srm_store.specs.Held as store
use Rattle.srm_bucket.specs.declared.class.Class.{Class}
use Rattle.srm_bucket.specs.Classes.{queued}
use Rattle.srm_entries.specs.Configs.{Config}
use Rattle.srm_entries.specs.declared.entry.Entry.{Entry}
use Rattle.srm_entries.specs.declared.entry.Input.{Input}
use Rattle.srm_entries.specs.declared.entry.Verdict.{Verdict}
use Rattle.srm_entries.specs.Entries.{evidence_in, held, is_missing, missing, slots, state}
use Rattle.srm_entries.specs.Bucket.{BucketRight, bucket_calls}
use Rattle.srm_entries.specs.Hearing.{bytes_heard}
use Rattle.srm_entries.specs.Still.{entry_without_effects}

-- how many names of one source are missing on a page
abbrev pub missing_of : List Entry → Page → ℕ → ℕ
missing_of es page source = length (missing es (stream_on source page))

-- and of all sources
abbrev pub missing_on : List Entry → Page → ℕ
missing_on es page = sum_by (missing_of es page) (count_up 0 MEMBERS)

-- and on all pages that have slots
abbrev pub missing_in_all : List Entry → ℕ
missing_in_all es = sum_by (missing_on es) (slots es)

-- the first missing name of a stream above a number
abbrev pub next_missing : List Entry → Stream → ℕ → Option FullName
next_missing es s after = store.next_missing (held es) (evidence_in es) s after

-- the entry makes the name missing
abbrev pub becomes_missing : List Entry → Entry → FullName → Bool
becomes_missing es e n = not (is_missing es n) && is_missing (es ++ e ∷ []) n

-- the entry of what is heard next, but for its moment and its timers: what is missing depends on neither
abbrev pub heard_next : Config → List Entry → Input × Verdict → Entry
heard_next c es heard = entry_without_effects c.me 0 heard.0 heard.1 None (state es)

-- so many names pass the test: these
pub record AreSoMany (test : FullName → Bool) (count : ℕ) : Type 0 where
  pub names : List FullName
  pub exactly : AreExactly test names
  pub is : count ≡ length names

-- hearing these bytes would make so many names missing
abbrev pub WouldMiss : Config → List Entry → List ℕ → ℕ → Type 0
WouldMiss c es bytes count = AreSoMany (becomes_missing es (heard_next c es (bytes_heard c es bytes))) count

-- so many datagrams of a class wait: the entries are marked with what the bucket let go in them, as they can be in one way alone
pub record AreWaiting (c : Config) (es : List Entry) (class : Class) (count : ℕ) : Type 0 where
  pub goings : BucketRight c es
  pub is : count ≡ length (queued (bucket_calls c.me goings.0) class)
