-- Whom a board's server answers.
use Rattle.std.specs.Prelude.{ℕ, Bool, true, false, ◌&&◌, ◌||◌, List, [], length, take, drop, Option, Some, None, if◌then◌else◌, codes, nat_eq}
use Rattle.std.specs.List.{list_any}
use Rattle.std.specs.Cmp.Lexicographic.{pointwise}
use Rattle.srm_slate.specs.declared.asked.Method.{Method}
use Rattle.srm_slate.specs.declared.asked.Method.TheVariants.{Get, Post, Other}
use Rattle.srm_slate.specs.declared.guard.Wish.{Wish}
use Rattle.srm_slate.specs.declared.guard.Wish.TheVariants as wish
use Rattle.srm_slate.specs.declared.guard.Judged.{Judged}
use Rattle.srm_slate.specs.declared.guard.Judged.TheVariants.{Granted, Misdirected, Unknown, Foreign}

-- a server's hosts, as a browser's `Host` names them, or that it answers to any; and what its paths begin with: `/`, or `/TOKEN/`
pub record Server : Type 0 where
  pub hosts : List (List ℕ)
  pub is_anywhere : Bool
  pub root : List ℕ

-- what a request says
pub record Asking : Type 0 where
  pub method : Method
  pub path : List ℕ
  pub host : Option (List ℕ)
  pub site : Option (List ℕ)
  pub origin : Option (List ℕ)
  pub is_marked : Bool

-- byte for byte
abbrev pub same_text : List ℕ → List ℕ → Bool
same_text = pointwise nat_eq

-- one of the server's hosts
abbrev pub is_host : Server → List ℕ → Bool
is_host server host = list_any (λ known. same_text known host) server.hosts

abbrev pub is_known : Server → Option (List ℕ) → Bool
is_known server None = false
is_known server (Some host) = server.is_anywhere || is_host server host

-- what a text has behind a beginning, if it begins so
abbrev pub behind : List ℕ → List ℕ → Option (List ℕ)
behind beginning text = if same_text (take (length beginning) text) beginning then Some (drop (length beginning) text) else None

-- what is asked for by the rest of a path
abbrev pub wish_of : Method → List ℕ → Option Wish
wish_of Get name = if same_text name [] then Some wish.Page else if same_text name (codes "told") then Some wish.Told else if same_text name (codes "live") then Some wish.Live else None
wish_of Post name = if same_text name (codes "draw") then Some wish.Draw else if same_text name (codes "leave") then Some wish.Leave else None
wish_of Other name = None

-- a browser that says from which kind of site a request comes says that it is this one
abbrev pub is_same_site : Option (List ℕ) → Bool
is_same_site None = true
is_same_site (Some site) = same_text site (codes "same-origin")

abbrev pub is_host_of : Option (List ℕ) → Option (List ℕ) → Bool
is_host_of (Some host) (Some named) = same_text named host
is_host_of _ _ = false

-- an origin is the host that the request itself names; only a GET may have none
abbrev pub is_same_origin : Method → Option (List ℕ) → Option (List ℕ) → Bool
is_same_origin Get host None = true
is_same_origin _ host None = false
is_same_origin _ host (Some origin) = is_host_of host (behind (codes "http://") origin)

-- it comes from the server's own page
abbrev pub is_own : Asking → Bool
is_own a = a.is_marked && (is_same_site a.site && is_same_origin a.method a.host a.origin)

-- a WebSocket's origin is the host that the request itself names, and it must have one
abbrev pub is_own_origin : Option (List ℕ) → Option (List ℕ) → Bool
is_own_origin host None = false
is_own_origin host (Some origin) = is_host_of host (behind (codes "http://") origin)

-- a WebSocket comes from the server's own page: no script can mark it, and every browser says its origin
abbrev pub is_live_own : Asking → Bool
is_live_own a = is_same_site a.site && is_own_origin a.host a.origin

-- The page is there for all who know its path, and all else for that page alone.
abbrev pub granted : Asking → Option Wish → Judged
granted a None = Unknown
granted a (Some wish.Page) = Granted wish.Page
granted a (Some wish.Live) = if is_live_own a then Granted wish.Live else Foreign
granted a (Some w) = if is_own a then Granted w else Foreign

abbrev pub judged_at : Server → Asking → Option (List ℕ) → Judged
judged_at server a None = Unknown
judged_at server a (Some name) = granted a (wish_of a.method name)

abbrev pub judged : Server → Asking → Judged
judged server a = if is_known server a.host then judged_at server a (behind server.root a.path) else Misdirected
