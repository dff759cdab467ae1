-- What goes out under the rate is what the bucket lets go, by its own law over the calls that the entries make: a draw hands in
-- its data; a tick hands in its requests and then its repairs, and pops until nothing more goes.
use Rattle.std.specs.Prelude.{◌≡◌, ℕ, Bool, not, ◌&&◌, List, [], ◌∷◌, ◌++◌, map, if◌then◌else◌, Option, Some, None, option_map}
use Rattle.std.specs.Bool.{OnTrue}
use Rattle.std.specs.List.{flat_map, filter_map, AllByRecursion}
use Rattle.srm_names.specs.declared.page.Page.{Page}
use Rattle.srm_names.specs.declared.drawop.Drawop.{Drawop}
use Rattle.srm_names.specs.FullName.{FullName}
use Rattle.srm_names.specs.Histories.{Step, steps}
use Rattle.srm_names.specs.Names.{same_page}
use Rattle.srm_codec.specs.declared.datagram.Datagram.{Datagram}
use Rattle.srm_codec.specs.declared.datagram.Datagram.TheVariants.{Data, Request, Repair, Session}
use Rattle.srm_codec.specs.Spelling.{length_of}
use Rattle.srm_bucket.specs.declared.class.Class.{Class}
use Rattle.srm_bucket.specs.declared.class.Class.TheVariants.{Shown, New, Other}
use Rattle.srm_bucket.specs.Calls.{Classed, BucketCall, Handed, Popped}
use Rattle.srm_bucket.specs.Law.{BucketLaw}
use Rattle.srm_entries.specs.Configs.{Config}
use Rattle.srm_entries.specs.declared.entry.Entry.{Entry}
use Rattle.srm_entries.specs.Entries.{ticked, state, is_gone, shown, held_at}
use Rattle.srm_entries.specs.Sessions.{charged}
use Rattle.srm_entries.specs.Packing.{packed}

-- a datagram that waits; it is charged its length
abbrev pub classed : Class → Datagram → Classed Datagram
classed class g = record { class = class; item = record { value = g; length = length_of g } }

-- the class of a request or a repair: by the page shown when it is handed in
abbrev pub class_for : Page → Option Page → Class
class_for showing None = Other
class_for showing (Some page) = if same_page page showing then Shown else Other

abbrev pub page_of : Datagram → Option Page
page_of (Data drawop) = Some drawop.name.stream.page
page_of (Request sender name mask) = Some name.stream.page
page_of (Repair sender drawop) = Some drawop.name.stream.page
page_of (Session sender sent farewell shown rows echoes) = None

abbrev pub due_item : Page → Datagram → Classed Datagram
due_item showing g = classed (class_for showing (page_of g)) g

abbrev pub data_item : Option Drawop → List (Classed Datagram)
data_item None = []
data_item (Some d) = classed New (Data d) ∷ []

abbrev pub repair_for : ℕ → List Entry → FullName → Option Datagram
repair_for me before n = option_map (Repair me) (held_at before n)

-- the requests and the repairs that an entry hands in
abbrev pub requests_and_repairs : ℕ → Step Entry → List Datagram
requests_and_repairs me s = packed me s.this.effects.asks ++ filter_map (repair_for me s.before) s.this.effects.fixes

abbrev pub handed_in_by : ℕ → Step Entry → List (Classed Datagram)
handed_in_by me s = data_item s.this.effects.drawn ++ map (due_item (shown s.before)) (requests_and_repairs me s)

-- an entry, and what the bucket lets go in it
pub record Going : Type 0 where
  pub entry : Entry
  pub goes : List (Classed Datagram)

-- an entry that sends nothing
abbrev pub idle : Entry → Going
idle e = record { entry = e; goes = [] }

abbrev pub entries_of : List Going → List Entry
entries_of gs = map (λ g. g.entry) gs

-- the bucket lets things go at a tick of a member that isn't gone
abbrev pub lets_go : Step Going → Bool
lets_go s = ticked s.this.entry && not (is_gone (state (entries_of s.before)))

-- pops until nothing goes
abbrev pub pops : {T : Type 0} → ℕ → List (Classed T) → List (BucketCall T)
pops now goes = map (λ i. Popped now (Some i)) goes ++ Popped now None ∷ []

abbrev pub calls_by : ℕ → Step Going → List (BucketCall Datagram)
calls_by me s =
    map Handed (handed_in_by me (record { before = entries_of s.before; this = s.this.entry }))
    ++ (if lets_go s then pops s.this.entry.moment s.this.goes else [])

abbrev pub bucket_calls : ℕ → List Going → List (BucketCall Datagram)
bucket_calls me gs = flat_map (calls_by me) (steps gs)

abbrev pub datagrams_of : List (Classed Datagram) → List Datagram
datagrams_of goes = map (λ i. i.item.value) goes

-- what goes in an entry are its charged outs, and at no other time does anything go
pub record GoesAsCharged (s : Step Going) : Type 0 where
  pub same : datagrams_of s.this.goes ≡ charged s.this.entry
  pub at_ticks : OnTrue (not (lets_go s)) (s.this.goes ≡ [])

-- the outs are what a bucket of this rate and depth lets go
abbrev pub BucketRight : Config → List Entry → Type 0
BucketRight c es = (gs : List Going) × (entries_of gs ≡ es) × AllByRecursion GoesAsCharged (steps gs) × BucketLaw c.rate c.depth (bucket_calls c.me gs)
