-- Settings, drawops and entries for examples.
use Rattle.std.specs.Prelude.{ℕ, List, [], ◌∷◌, map, Option, Some, None, replicate}
use Rattle.std.specs.List.{flat_map}
use Rattle.srm_names.specs.declared.page.Page.{Page}
use Rattle.srm_names.specs.declared.stream.Stream.{Stream}
use Rattle.srm_names.specs.declared.drawop.Drawop.{Drawop}
use Rattle.srm_names.specs.declared.page_msg.PageMsg.{PageMsg}
use Rattle.srm_names.specs.FullName.{FullName}
use Rattle.srm_names.specs.Histories.{Step, steps}
use Rattle.srm_names.specs.Names.{first_page, named, names_up_to}
use Rattle.srm_codec.specs.declared.datagram.Datagram.{Datagram}
use Rattle.srm_codec.specs.declared.datagram.Datagram.TheVariants.{Data, Request}
use Rattle.srm_bucket.specs.Calls.{Classed, BucketCall, Handed, Refilled, Popped}
use Rattle.srm_bucket.specs.Law.{may_go}
use Rattle.srm_timers.specs.declared.arm.Arm.{Arm}
use Rattle.srm_timers.specs.declared.arm.ArmKind.TheVariants.{Ask, Fix}
use Rattle.srm_timers.specs.Arms.{WaitBasis}
use Rattle.srm_entries.specs.Configs.{Config}
use Rattle.srm_entries.specs.declared.entry.Entry.{Entry}
use Rattle.srm_entries.specs.declared.entry.Effects.{Effects}
use Rattle.srm_entries.specs.declared.state.AgentState.{AgentState}
use Rattle.srm_entries.specs.declared.state.AgentState.TheVariants.{Active}
use Rattle.srm_entries.specs.declared.entry.Input.{Input}
use Rattle.srm_entries.specs.declared.entry.Input.TheVariants.{Drew, Heard, Ticked, Gave, Took}
use Rattle.srm_entries.specs.declared.entry.Verdict.TheVariants.{Done}
use Rattle.srm_entries.specs.Bucket.{Going, bucket_calls}

-- the settings of a member in a roster of so many, with a bucket of this depth
abbrev pub in_roster : ℕ → ℕ → ℕ → Config
in_roster me members depth = record { me = me; members = members; session = 1; rate = 8000; depth = depth; c1 = 2; c2 = 2; d1 = 1; d2 = 1; least_distance = 1 }

-- of one of two members, of one of three, and of member 1 of four
abbrev pub config : ℕ → Config
config me = in_roster me 2 4204

abbrev pub trio : ℕ → Config
trio me = in_roster me 3 4204

abbrev pub one_of_four : Config
one_of_four = in_roster 1 4 4204

-- the stream of member 0 on the first page
abbrev pub first_stream : Stream
first_stream = record { source = 0; page = first_page }

abbrev pub four_names : List FullName
four_names = names_up_to first_stream 4

-- a page that isn't the first
abbrev pub elsewhere : Page
elsewhere = record { creator = 1; number = 3 }

abbrev pub drawop_of : ℕ → ℕ → List ℕ → Drawop
drawop_of number stamp body = record { name = named first_stream number; stamp = stamp; body = body }

-- the three drawops of both stored scripts
abbrev pub first_drawop : Drawop
first_drawop = drawop_of 1 1 (97 ∷ [])

abbrev pub second_drawop : Drawop
second_drawop = drawop_of 2 2 (98 ∷ [])

abbrev pub third_drawop : Drawop
third_drawop = drawop_of 3 3 (99 ∷ [])

-- one with the longest body
abbrev pub full : ℕ → Drawop
full n = drawop_of n 1 (replicate 1024 7)

-- what a call does that does nothing but leave this state
abbrev pub quiet : AgentState → Effects
quiet after = record { drawn = None; arms = []; asks = []; fixes = []; outs = []; message = None; state = after }

abbrev pub entry : ℕ → ℕ → Input → Effects → Entry
entry m now input effects = record { member = m; moment = now; input = input; verdict = Done; effects = effects }

abbrev pub draws : ℕ → ℕ → Drawop → Entry
draws m now d = entry m now (Drew d.name.stream.page d.body) (record (quiet Active) { drawn = Some d })

-- a datagram that was accepted and set these timers
abbrev pub hears : ℕ → ℕ → Datagram → List Arm → Entry
hears m now g arms = entry m now (Heard g) (record (quiet Active) { arms = arms })

abbrev pub ticks : ℕ → ℕ → List FullName → List FullName → List Arm → List Datagram → Entry
ticks m now asks fixes arms outs = entry m now Ticked (record (quiet Active) { asks = asks; fixes = fixes; arms = arms; outs = outs })

-- in the first slot
abbrev pub gives : ℕ → ℕ → Option PageMsg → Entry
gives m now message = entry m now (Gave 0) (record (quiet Active) { message = message })

abbrev pub takes : ℕ → ℕ → Option PageMsg → Entry
takes m now message = entry m now (Took 0) (record (quiet Active) { message = message })

abbrev pub ask_arm : ℕ → ℕ → ℕ → Arm
ask_arm number exponent wait = record { kind = Ask; name = named first_stream number; exponent = exponent; distance = 100000; wait = wait }

abbrev pub fix_arm : ℕ → ℕ → Arm
fix_arm number wait = record { kind = Fix; name = named first_stream number; exponent = 0; distance = 100000; wait = wait }

-- a gap is found: the first drawop is missing
abbrev pub gap : Entry
gap = hears 1 1000000 (Data (drawop_of 2 0 [])) (ask_arm 1 0 200000 ∷ [])

-- the first drawop is asked for by another
abbrev pub asked : ℕ → List Arm → Entry
asked now arms = hears 1 now (Request 2 (named first_stream 1) 0) arms

-- three drawops are known
abbrev pub known_three : List Entry
known_three = hears 1 1 (Data (drawop_of 3 0 [])) [] ∷ []

abbrev pub ask_set : ℕ → Option WaitBasis
ask_set exponent = Some (record { kind = Ask; exponent = exponent; distance = 100000 })

abbrev pub fix_set : Option WaitBasis
fix_set = Some (record { kind = Fix; exponent = 0; distance = 100000 })

-- what the definitions say at each entry
abbrev pub at_each : {X : Type 0} → (Step Entry → X) → List Entry → List X
at_each f es = map f (steps es)

-- what the bucket lets go in a call: something or nothing in a pop
abbrev pub popped : Config → List (BucketCall Datagram) → BucketCall Datagram → List (Option (Classed Datagram))
popped k before (Handed item) = []
popped k before (Refilled now) = []
popped k before (Popped now went) = may_go k.rate k.depth before now ∷ []

abbrev pub pop_at : Config → Step (BucketCall Datagram) → List (Option (Classed Datagram))
pop_at k s = popped k s.before s.this

-- what the bucket lets go, pop by pop
abbrev pub let_go : Config → List Going → List (Option (Classed Datagram))
let_go k gs = flat_map (pop_at k) (steps (bucket_calls k.me gs))
