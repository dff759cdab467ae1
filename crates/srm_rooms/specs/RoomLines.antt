-- A line that names a room, and the words that it stands for.
use Rattle.std.specs.Prelude.{◌≡◌, ◌⊎◌, ℕ, ◌==◌, Bool, true, false, not, ◌&&◌, ◌||◌, if◌then◌else◌, List, [], ◌∷◌, ◌++◌, map, codes, bytes_eq, Option, Some, None}
use Rattle.std.specs.Fmt.{decimal}
use denote.Ref.{Bor}
use Rattle.srm_room.specs.Rooms.{Content, Person}
use Rattle.srm_room.specs.declared.room_settings.RoomSettings.{RoomSettings}

abbrev pub texts : List (Bor (List ℕ)) → List (List ℕ)
texts words = map (λ (word : Bor (List ℕ)). word.now) words

abbrev pub value_now : Option (Bor (List ℕ)) → Option (List ℕ)
value_now None = None
value_now (Some value) = Some value.now

-- ---- the line

-- an option and its value, as two words or as one
abbrev pub IsOption : List ℕ → List ℕ → List (List ℕ) → Type 0
IsOption option value words = (words ≡ option ∷ value ∷ []) ⊎ (words ≡ (option ++ 61 ∷ value) ∷ [])

-- Some words without an option: if it has a value, the two stood between the others.
abbrev pub TakesOut : List ℕ → List (List ℕ) → Option (List ℕ) → List (List ℕ) → Type 0
TakesOut option words None others = others ≡ words
TakesOut option words (Some value) others = (front : List (List ℕ)) × (taken : List (List ℕ)) × (back : List (List ℕ)) × (words ≡ front ++ (taken ++ back)) × IsOption option value taken × (others ≡ front ++ back)

-- A line is a room's file, a member if it names one, and its other words in their order.
abbrev pub IsLine : List (List ℕ) → List ℕ → Option (List ℕ) → List (List ℕ) → Type 0
IsLine words file me own = (rest : List (List ℕ)) × TakesOut (codes "--room") words (Some file) rest × TakesOut (codes "--me") rest me own

-- ---- what a line may say beside a room

-- the word is the option, or the option with its value behind '='
abbrev pub is_option : List ℕ → List ℕ → Bool
is_option [] [] = true
is_option (b ∷ word) [] = b == 61
is_option [] (o ∷ option) = false
is_option (b ∷ word) (o ∷ option) = (b == o) && is_option word option

-- an option that says what the room says for all members
abbrev pub is_shared : List ℕ → Bool
is_shared word = is_option word (codes "--session") || is_option word (codes "--waits") || is_option word (codes "--least-distance") || is_option word (codes "--key")

-- an option whose value stands behind it
abbrev pub is_valued : List ℕ → Bool
is_valued word =
    bytes_eq word (codes "--start") || bytes_eq word (codes "--stay") || bytes_eq word (codes "--turns") || bytes_eq word (codes "--rate") || bytes_eq word (codes "--depth")
    || bytes_eq word (codes "--linger") || bytes_eq word (codes "--most-missing") || bytes_eq word (codes "--record") || bytes_eq word (codes "--http") || bytes_eq word (codes "--me") || bytes_eq word (codes "--room")

abbrev pub begins_as_option : List ℕ → Bool
begins_as_option [] = false
begins_as_option (b ∷ word) = b == 45

-- an option that a line with a room may have
abbrev pub is_own : List ℕ → Bool
is_own word = not (is_shared word) && begins_as_option word

-- whether a word may follow, if an option before it awaits a value or not, and whether it awaits one itself
abbrev pub may_follow : Bool → List ℕ → Bool
may_follow true word = true
may_follow false word = is_own word

abbrev pub awaits_behind : Bool → List ℕ → Bool
awaits_behind true word = false
awaits_behind false word = is_valued word

-- Only options and their values, no address, and nothing that the room says for all members. `awaits` says whether the first word is a value.
abbrev pub are_own : Bool → List (List ℕ) → Bool
are_own awaits [] = true
are_own awaits (word ∷ words) = may_follow awaits word && are_own (awaits_behind awaits word) words

-- ---- the words that a line with a room stands for

abbrev pub numbered : List ℕ → ℕ → List (List ℕ)
numbered option n = option ∷ decimal n ∷ []

-- one of the line's other words is the option
abbrev pub says : List (List ℕ) → List ℕ → Bool
says [] option = false
says (word ∷ own) option = is_option word option || says own option

-- what is usual, unless the line's other words say it
abbrev pub usual : List (List ℕ) → List ℕ → ℕ → List (List ℕ)
usual own option n = if says own option then [] else numbered option n

abbrev pub waits_text : RoomSettings → List ℕ
waits_text s = decimal s.c1 ++ (codes "," ++ (decimal s.c2 ++ (codes "," ++ (decimal s.d1 ++ (codes "," ++ decimal s.d2)))))

abbrev pub waits_words : RoomSettings → List (List ℕ)
waits_words s = codes "--waits" ∷ waits_text s ∷ []

-- what all members share, and the member's place
unfoldable pub shared_words : Content → ℕ → List (List ℕ)
shared_words r me = numbered (codes "--session") r.session ++ (numbered (codes "--me") me ++ (waits_words r.settings ++ numbered (codes "--least-distance") r.settings.least_distance))

-- a member lingers only if it is live
abbrev pub linger_words : RoomSettings → Bool → List (List ℕ) → List (List ℕ)
linger_words s live own = if live then usual own (codes "--linger") s.linger else []

unfoldable pub usual_words : RoomSettings → Bool → List (List ℕ) → List (List ℕ)
usual_words s live own = usual own (codes "--rate") s.rate ++ (usual own (codes "--depth") s.depth ++ (linger_words s live own ++ usual own (codes "--most-missing") s.most_missing))

abbrev pub addresses_of : List Person → List (List ℕ)
addresses_of ps = map (λ (p : Person). p.address) ps

-- Which line without a room says the same: what all share, what is usual, the members' addresses in order, and the line's other words.
unfoldable pub words_of : Content → ℕ → Bool → List (List ℕ) → List (List ℕ)
words_of r me live own = shared_words r me ++ (usual_words r.settings live own ++ (addresses_of r.people ++ own))
