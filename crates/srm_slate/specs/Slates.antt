-- What the browsers of a board are shown of their member.
use Rattle.std.specs.Prelude.{◌≡◌, ℕ, Bool, false, List, [], ◌∷◌, ◌++◌, length, take, drop, replicate, slice_index, slice_set, if◌then◌else◌}
use Rattle.std.specs.List.{list_any}
use Rattle.srm_names.specs.declared.limits.TheConstants.{MEMBERS}
use Rattle.srm_names.specs.FullName.{FullName}
use Rattle.srm_names.specs.Histories.{IsPrefix}
use Rattle.srm_names.specs.Names.{same_name}
use Rattle.srm_slate.specs.declared.happening.Happening.{Happening}
use Rattle.srm_slate.specs.declared.happening.Happening.TheVariants.{Gained}
use Rattle.srm_slate.specs.declared.happenings.TheConstants.{KEPT}
use Rattle.srm_slate.specs.declared.hole.Hole.{Hole}
use Rattle.srm_slate.specs.declared.hole.TheConstants.{NAMED}
use Rattle.srm_slate.specs.declared.look.Look.{Look}
use Rattle.srm_slate.specs.declared.record.TheConstants.{TOLD}
use Rattle.srm_slate.specs.declared.taken.Taken.{Taken}
use Rattle.srm_slate.specs.Happenings.{newest, one_more}
use Rattle.srm_slate.specs.RecordView.{RecordView}

-- a member with nothing to show
abbrev pub blank : RecordView
blank = record {
  taken = [];
  is_lossy = false;
  missing = 0;
  holes = [];
  happenings = record { kept = []; count = 0 };
  counts = record { sent = 0; came = 0; requests = 0; repairs = 0; ignored = 0; noise = 0; dropped = 0 };
  heard = replicate MEMBERS 0;
  is_stale = false;
  has_ended = false;
}

-- what a tab that has so many messages is told: the next 100
abbrev pub told_from : ℕ → List Taken → List Taken
told_from from taken = take TOLD (drop from taken)

-- whatever was a prefix of the old list is one of the new
abbrev pub StaysPrefix : List Taken → List Taken → Type 0
StaysPrefix old new = (shown : List Taken) → IsPrefix shown old → IsPrefix shown new

-- Whoever has a prefix of what was taken, so many messages, and puts these behind them, has a prefix again.
pub record KeepsPrefix (from : ℕ) (taken told : List Taken) : Type 0 where
  pub prefix : (shown : List Taken) → length shown ≡ from → IsPrefix shown taken → IsPrefix (shown ++ told) taken

-- something befell the member: the last 256 are kept
abbrev pub happened : Happening → RecordView → RecordView
happened what r = record r { happenings = record { kept = newest KEPT (r.happenings.kept ++ what ∷ []); count = one_more r.happenings.count } }

-- so many drawops are missing, and the first 64 are shown by name
abbrev pub with_missing : ℕ → List Hole → RecordView → RecordView
with_missing count holes r = record r { missing = count; holes = take NAMED holes }

-- the drawop is shown as missing
abbrev pub is_hole : FullName → List Hole → Bool
is_hole name holes = list_any (λ h. same_name h.name name) holes

-- a drawop came in a datagram of this member, which is news where it is shown as missing
abbrev pub gained : FullName → ℕ → RecordView → RecordView
gained name by r = if is_hole name r.holes then happened (Gained name by) r else r

-- a datagram of this member came
abbrev pub heard_from : ℕ → RecordView → RecordView
heard_from member r = record r { counts = record r.counts { came = one_more r.counts.came }; heard = slice_set r.heard member (one_more (slice_index r.heard member)) }

-- a look says how the member stands
pub record Shows (r : RecordView) (look : Look) : Type 0 where
  pub happened : look.happened ≡ r.happenings.count
  pub missing : look.missing ≡ r.missing
  pub counts : look.counts ≡ r.counts
  pub heard : look.heard ≡ r.heard
  pub is_lossy : look.is_lossy ≡ r.is_lossy
  pub is_stale : look.is_stale ≡ r.is_stale
  pub has_ended : look.has_ended ≡ r.has_ended
