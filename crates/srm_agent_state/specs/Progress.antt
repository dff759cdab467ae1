-- How much of its page feed one page slot has given.
use Rattle.std.specs.Prelude.{◌≡◌, ℕ, ◌<◌, Bool, false, List, [], length, is_some, slice_index, slice_index_or}
use Rattle.std.specs.List.{list_any}
use Rattle.srm_names.specs.declared.limits.TheConstants.{MEMBERS}
use Rattle.srm_names.specs.declared.page_msg.PageMsg.{PageMsg}
use Rattle.srm_names.specs.PageFeeds.{drawops_of, leaves, is_close, opened}
use Rattle.srm_agent_state.specs.declared.progress.Progress.TheInside.{Inside}

pub record ProgressContent : Type 0 where
  pub opened : Bool
  pub closed : Bool
  pub numbers : List ℕ
  pub left : List Bool

abbrev pub progress_of : Inside → ProgressContent
progress_of f = record { opened = f.opened; closed = f.closed; numbers = f.numbers; left = f.left }

pub record HasAllMembers (f : Inside) : Type 0 where
  pub numbers : length f.numbers ≡ MEMBERS
  pub left : length f.left ≡ MEMBERS

-- the progress is what these messages leave
pub record ProgressFits (given : List PageMsg) (f : ProgressContent) : Type 0 where
  pub opened : f.opened ≡ is_some (opened given)
  pub closed : f.closed ≡ list_any is_close given
  pub begun : f.opened ≡ false → f.closed ≡ false → given ≡ []
  pub numbers : (source : ℕ) → source < MEMBERS → slice_index f.numbers source ≡ length (drawops_of source given)
  pub left : (source : ℕ) → source < MEMBERS → slice_index_or f.left source false ≡ list_any (leaves source) given
