-- What is gathered and written, one text behind another.
use Rattle.std.proofs.Common.{◌≡◌, ℕ, List, [], ◌++◌, length, take, drop, Option, Result, Ok, Err, OnErr, refl, sym, subst, ap, ◌∙◌, append_assoc, append-nil}
use Rattle.std.proofs.lemmas.List.{take-append-drop, nil_from_length}
use Rattle.std.specs.Prelude.{OnOk}
use Rattle.std.specs.Io.KnownBytes.{Appends, Keeps}
use Rattle.std.proofs.KnownBytes.{Appends-nil, Appends-trans, Appends-kept}
use Rattle.srm_output.specs.Writing.{AppendsAllBut, AppendsFront}

-- nothing is written of what is gathered
pub none_of_all : (a : Option (List ℕ)) (text : List ℕ) → AppendsAllBut a a text text
none_of_all a text = record { front = []; parts = refl; output = Appends-nil a }

-- all is written
pub all_of_all : (a b : Option (List ℕ)) (text behind : List ℕ) → AppendsAllBut a b text behind → length behind ≡ 0 → Appends a b text
all_of_all a b text behind x none =
    let whole : x.front ≡ text = sym (append-nil x.front) ∙ ap (λ (behind : List ℕ). x.front ++ behind) (sym (nil_from_length behind none)) ∙ x.parts in
    subst (Appends a b) whole x.output

-- all of a text, and then of what is behind it
pub all_but_on : (a b c : Option (List ℕ)) (first behind more rest : List ℕ) → AppendsAllBut a b first behind → AppendsAllBut b c (behind ++ more) rest
    → AppendsAllBut a c (first ++ more) rest
all_but_on a b c first behind more rest x y = record {
  front = x.front ++ y.front;
  parts = append_assoc x.front y.front rest
      ∙ ap (λ (text : List ℕ). x.front ++ text) y.parts
      ∙ sym (append_assoc x.front behind more)
      ∙ ap (λ (text : List ℕ). text ++ more) x.parts;
  output = Appends-trans a b c x.front y.front x.output y.output;
}

-- the same of a front
pub front_on : (a b c : Option (List ℕ)) (first behind more : List ℕ) → AppendsAllBut a b first behind → AppendsFront b c (behind ++ more)
    → AppendsFront a c (first ++ more)
front_on a b c first behind more x y = record { behind = y.behind; most = all_but_on a b c first behind more y.behind x y.most }

-- a front of a text is one of a longer text
pub front_of_more : (a b : Option (List ℕ)) (text more : List ℕ) → AppendsFront a b text → AppendsFront a b (text ++ more)
front_of_more a b text more x = record {
  behind = x.behind ++ more;
  most = record {
    front = x.most.front;
    parts = sym (append_assoc x.most.front x.behind more) ∙ ap (λ (text : List ℕ). text ++ more) x.most.parts;
    output = x.most.output;
  };
}

pub front_of_some : (a b : Option (List ℕ)) (text behind : List ℕ) → AppendsAllBut a b text behind → AppendsFront a b text
front_of_some a b text behind x = record { behind = behind; most = x }

pub front_of_all : (a b : Option (List ℕ)) (text : List ℕ) → Appends a b text → AppendsFront a b text
front_of_all a b text x = record { behind = []; most = record { front = text; parts = append-nil text; output = x } }

pub front_of_none : (a : Option (List ℕ)) (text : List ℕ) → AppendsFront a a text
front_of_none a text = record { behind = text; most = none_of_all a text }

-- bytes of what is behind are written
pub written_more : (a b c : Option (List ℕ)) (text rest : List ℕ) (count : ℕ) → AppendsAllBut a b text rest → Appends b c (take count rest)
    → AppendsAllBut a c text (drop count rest)
written_more a b c text rest count x y = record {
  front = x.front ++ take count rest;
  parts = append_assoc x.front (take count rest) (drop count rest)
      ∙ ap (λ (text : List ℕ). x.front ++ text) (take-append-drop count rest)
      ∙ x.parts;
  output = Appends-trans a b c x.front (take count rest) x.output y;
}

-- none are
pub front_still : (a b c : Option (List ℕ)) (text rest : List ℕ) → AppendsAllBut a b text rest → Appends b c [] → AppendsFront a c text
front_still a b c text rest x y = front_of_some a c text rest (written_more a b c text rest 0 x y)

pub kept_is_none : (a b : Option (List ℕ)) → Keeps a b → Appends a b []
kept_is_none a b x = Appends-kept a a b [] (Appends-nil a) x

-- the call wrote nothing
pub kept_on : (a b c : Option (List ℕ)) (text rest : List ℕ) → AppendsAllBut a b text rest → Keeps b c → AppendsAllBut a c text rest
kept_on a b c text rest x y = record { front = x.front; parts = x.parts; output = Appends-kept a b c x.front x.output y }

-- a text and what ends it
pub ends : (a b c : Option (List ℕ)) (before text behind last : List ℕ) → AppendsAllBut a b (before ++ text) behind → AppendsAllBut b c (behind ++ last) []
    → Appends a c (before ++ (text ++ last))
ends a b c before text behind last x y =
    subst (Appends a c) (append_assoc before text last) (all_of_all a c _ [] (all_but_on a b c (before ++ text) behind last [] x y) refl)

pub ends_front : (a b c : Option (List ℕ)) (before text behind last : List ℕ) → AppendsAllBut a b (before ++ text) behind → AppendsFront b c (behind ++ last)
    → AppendsFront a c (before ++ (text ++ last))
ends_front a b c before text behind last x y = subst (AppendsFront a c) (append_assoc before text last) (front_on a b c (before ++ text) behind last x y)

pub ends_of_front : (a c : Option (List ℕ)) (before text last : List ℕ) → AppendsFront a c (before ++ text) → AppendsFront a c (before ++ (text ++ last))
ends_of_front a c before text last x = subst (AppendsFront a c) (append_assoc before text last) (front_of_more a c (before ++ text) last x)

-- what follows where a call succeeded, and where it failed
pub ok_then : {T E P Q : Type 0} (r : Result T E) → OnOk r P → (P → Q) → OnOk r Q
ok_then (Ok x) p more = more p
ok_then (Err e) p more = tt

pub err_then : {T E P Q : Type 0} (r : Result T E) → OnErr r P → (P → Q) → OnErr r Q
err_then (Ok x) p more = tt
err_then (Err e) p more = more p
