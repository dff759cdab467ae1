-- The bucket law over the entries themselves: what goes out under the rate, in which order, and how much.
use Rattle.std.specs.Prelude.{◌≡◌, ℕ, ◌+◌, ◌<◌, ◌≤◌, true, List, [], ◌∷◌, ◌++◌, length, drop, if◌then◌else◌, Some, IfSome}
use Rattle.std.specs.Bool.{OnTrue}
use Rattle.std.specs.List.{flat_map, AllByRecursion}
use Rattle.srm_names.specs.Histories.{steps, IsPrefix}
use Rattle.srm_codec.specs.declared.datagram.Datagram.{Datagram}
use Rattle.srm_codec.specs.Spelling.{length_of}
use Rattle.srm_bucket.specs.declared.class.Class.{Class}
use Rattle.srm_bucket.specs.declared.item.Item.{Item}
use Rattle.srm_bucket.specs.Calls.{Classed}
use Rattle.srm_bucket.specs.Classes.{rank, in_class, first_of_highest}
use Rattle.srm_bucket.specs.Ticks.{Tick, charge, allowance, level, cost}
use Rattle.srm_bucket.specs.Tokens.{cost_of}
use Rattle.srm_entries.specs.Configs.{Config}
use Rattle.srm_entries.specs.declared.entry.Entry.{Entry}
use Rattle.srm_entries.specs.Entries.{ticked}
use Rattle.srm_entries.specs.Sessions.{charged}
use Rattle.srm_entries.specs.Bucket.{Going, GoesAsCharged, entries_of, handed_in_by, lets_go}
use Rattle.srm_entries.specs.Runs.{IsMemberRun}

abbrev pub one_of_class : Class → Classed Datagram → List (Item Datagram)
one_of_class class i = in_class class (Some i)

-- those of the items that are of a class
abbrev pub of_class : Class → List (Classed Datagram) → List (Item Datagram)
of_class class items = flat_map (one_of_class class) items

-- what the entries handed in, and what went in them
abbrev pub handed_so_far : ℕ → List Entry → List (Classed Datagram)
handed_so_far me es = flat_map (handed_in_by me) (steps es)

abbrev pub departed_so_far : List Going → List (Classed Datagram)
departed_so_far gs = flat_map (λ g. g.goes) gs

-- what is left of a class
abbrev pub queued_of : ℕ → List Going → Class → List (Item Datagram)
queued_of me gs class = drop (length (of_class class (departed_so_far gs))) (of_class class (handed_so_far me (entries_of gs)))

-- what the datagrams cost, in millionths of a byte
abbrev pub cost_all : List Datagram → ℕ
cost_all [] = 0
cost_all (g ∷ gs) = cost_of (length_of g) + cost_all gs

-- a tick, and what its outs are charged
abbrev pub tick_in : Entry → List Tick
tick_in e = if ticked e then record { moment = e.moment; cost = cost_all (charged e) } ∷ [] else []

abbrev pub ticks_of : List Entry → List Tick
ticks_of es = flat_map tick_in es

-- What goes in an entry, with the entries before it, marked with what went in them:
--     in_order        by class, what went is a prefix of what was handed in, this entry's own hand-ins included
--     highest_first   when something goes, nothing that was handed in of a higher class is left
--     all_that_may    at the end of a tick nothing is left, or what would go next costs more than the level
pub record RightAt (c : Config) (before : List Going) (this : Going) : Type 0 where
  pub in_order : (class : Class) → IsPrefix (of_class class (departed_so_far (before ++ this ∷ []))) (of_class class (handed_so_far c.me (entries_of (before ++ this ∷ []))))
  pub highest_first : (first rest : List (Classed Datagram)) (i : Classed Datagram) → this.goes ≡ first ++ i ∷ rest → (class : Class) → rank class < rank i.class
      → of_class class (departed_so_far before ++ first) ≡ of_class class (handed_so_far c.me (entries_of (before ++ this ∷ [])))
  pub all_that_may : OnTrue (lets_go (record { before = before; this = this }))
      (IfSome (first_of_highest (queued_of c.me (before ++ this ∷ []))) (λ i. level c.rate c.depth this.entry.moment (ticks_of (entries_of (before ++ this ∷ []))) < cost (Some i)))

-- The charged outs can be marked with classes so that each entry is right; and from one tick to the same or a later one, both
-- counted, no more is charged than the depth, and the rate times the time between.
pub record KeepsRate (c : Config) (es : List Entry) : Type 0 where
  pub goings : List Going
  pub entries : entries_of goings ≡ es
  pub outs : AllByRecursion GoesAsCharged (steps goings)
  pub each : (before after : List Going) (this : Going) → goings ≡ before ++ this ∷ after → RightAt c before this
  pub one_tick : (before after : List Entry) (e : Entry) → es ≡ before ++ e ∷ after → ticked e ≡ true
      → charge (ticks_of (e ∷ [])) ≤ allowance c.rate c.depth e.moment e.moment
  pub windows : (before between after : List Entry) (e f : Entry) → es ≡ before ++ e ∷ between ++ f ∷ after → ticked e ≡ true → ticked f ≡ true
      → charge (ticks_of (e ∷ between ++ f ∷ [])) ≤ allowance c.rate c.depth e.moment f.moment

-- the law, over every run of a member
abbrev pub RateLaw : Type 0
RateLaw = (c : Config) (made : ℕ) (es : List Entry) → IsMemberRun c made es → KeepsRate c es
