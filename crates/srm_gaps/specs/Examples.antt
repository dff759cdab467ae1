-- The definitions on the first stored script: member 0 speaks and member 1 listens.
use Rattle.std.specs.Prelude.{◌≡◌, ℕ, Bool, true, false, List, [], ◌∷◌, ◌++◌, map, take, drop, Some, None, refl}
use Rattle.srm_codec.specs.declared.datagram.Datagram.TheVariants.{Data}
use Rattle.srm_entries.specs.declared.entry.Entry.{Entry}
use Rattle.srm_entries.specs.Sample.{in_roster, first_drawop, hears, ticks}
use Rattle.srm_entries.specs.FirstScript as first
use Rattle.srm_world.specs.Traces.{of_member}
use Rattle.srm_replays.specs.Law.{acting}
use Rattle.srm_replays.specs.Examples.{noise}
use Rattle.srm_gaps.specs.declared.told.Told.{Told}
use Rattle.srm_gaps.specs.Possible.{calls_told, may_miss, is_free, next_told}
use Rattle.srm_gaps.specs.Retelling.{idle_front, behind_acting, with_replay, with_replays}

abbrev told : ℕ → List Entry → Bool → Told
told me entries is_cut = record { journal = record { start = record { config = in_roster me 2 4204; made = 0 }; entries = entries }; is_cut = is_cut }

abbrev speaks : Bool → Told
speaks = told 0 first.member_0

abbrev listens : Told
listens = told 1 (first.heard_by_1 ++ first.given_by_1) false

-- whose record is missing or cut
missing : map (may_miss (listens ∷ [])) (0 ∷ 1 ∷ []) ≡ true ∷ false ∷ []
missing = refl

cut : map (may_miss (listens ∷ speaks true ∷ [])) (0 ∷ 1 ∷ []) ≡ true ∷ false ∷ []
cut = refl

-- of whom no record is there, nothing is told
untold : calls_told (listens ∷ []) 0 ≡ []
untold = refl

-- a member whose record is cut may have done anything only behind all that is told of it
free : map (λ (es : List Entry). is_free (speaks true ∷ listens ∷ []) es 0) ([] ∷ take 1 first.member_0 ∷ first.member_0 ∷ []) ≡ false ∷ false ∷ true ∷ []
free = refl

whole : is_free (speaks false ∷ listens ∷ []) first.member_0 0 ≡ false
whole = refl

-- without a record of member 0 it may have done so from the first on
always_free : is_free (listens ∷ []) [] 0 ≡ true
always_free = refl

-- what comes next, by its own record
nexts : map (next_told (listens ∷ speaks true ∷ []) (first.member_0 ++ take 1 first.heard_by_1)) (0 ∷ 1 ∷ 2 ∷ []) ≡ None ∷ Some (hears 1 11 (Data first_drawop) []) ∷ None ∷ []
nexts = refl

-- A run in which member 1 ticked with nothing due, and in the end again. In its replay there is noise in other places.
abbrev idle : ℕ → Entry
idle now = ticks 1 now [] [] [] []

abbrev done : List Entry
done = first.member_0 ++ idle 10 ∷ first.heard_by_1 ++ idle 20 ∷ []

abbrev replay : List Entry
replay = take 1 first.heard_by_1 ++ noise 11 ∷ drop 1 first.heard_by_1 ++ noise 13 ∷ []

-- what stands in front of the first call that acts, and behind it
in_front : idle_front (noise 10 ∷ first.heard_by_1) ≡ noise 10 ∷ []
in_front = refl

behind : behind_acting (noise 10 ∷ first.heard_by_1) ≡ drop 1 first.heard_by_1
behind = refl

-- its noise is put in where it stands in the replay, in place of the ticks
put_in : with_replay 1 replay done ≡ first.member_0 ++ replay
put_in = refl

-- a replay that is cut stands in front, and what acted behind it follows
cut_short : with_replay 1 (take 1 first.heard_by_1 ++ noise 11 ∷ []) done ≡ first.member_0 ++ take 1 first.heard_by_1 ++ noise 11 ∷ drop 1 first.heard_by_1
cut_short = refl

abbrev both : List Told
both = told 0 first.member_0 false ∷ told 1 replay false ∷ []

each_in_place : with_replays both done ≡ first.member_0 ++ replay
each_in_place = refl

same_acts : map (λ (m : ℕ). acting (of_member m done)) (0 ∷ 1 ∷ 2 ∷ []) ≡ map (λ (m : ℕ). acting (calls_told both m)) (0 ∷ 1 ∷ 2 ∷ [])
same_acts = refl
