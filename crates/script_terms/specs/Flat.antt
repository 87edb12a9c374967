-- DEFINITIONS, to be read against document 02, No. 4: "Curry and flatten as source document 002 does: one tag for each declared symbol in order, then one for
-- each distinct compound part of the curried terms, after its two halves, the left half first. Its 02 stands where the part is first met; the assertion's 01
-- or 05 follows. .. Negated equalities become 05, check-sat becomes 06. A script that declares no symbol gets N = 1." Assumes nothing.
use Rattle.std.specs.Prelude.{ℕ, suc, ◌+◌, max, Bool, false, cond, ◌&&◌, ◌||◌, List, [], ◌∷◌, ◌++◌, map, eqb, length, drop}
use Rattle.meaning.specs.Following.{Rec, eq, app}
use Rattle.script_terms.specs.Terms.{Term, call, Args, none, more, Command, declare, equal, differ, check, arities_of}

-- A part of a curried term: a symbol, or the one application of a left half to a right half.
pub data Part : Type 0 where
  symbol : ℕ → Part
  applied : Part → Part → Part

-- Source document 002: "Currifying g(a, h(b), b) gives f(f(f(g,a), f(h,b)),b)".
abbrev mutual
  pub curry : Term → Part
  curry (call f ts) = spine ts (symbol f)

  pub spine : Args → Part → Part
  spine none p = p
  spine (more t ts) p = spine ts (applied p (curry t))

abbrev pub same : Part → Part → Bool
same (symbol f) (symbol g) = eqb f g
same (symbol f) (applied p q) = false
same (applied p q) (symbol g) = false
same (applied p q) (applied p' q') = same p p' && same q q'

-- Parts met so far, and one more: it is new only if it is not among them.
abbrev pub has : List Part → Part → Bool
has [] p = false
has (x ∷ l) p = same x p || has l p

abbrev pub add : List Part → Part → List Part
add l p = cond (has l p) l (l ++ p ∷ [])

-- The compound parts met by the end of a curried term, in the order of their tags: "after its two halves, the left half first".
abbrev pub met : List Part → Part → List Part
met l (symbol f) = l
met l (applied p q) = add (met (met l p) q) (applied p q)

-- .. by the end of a command, and by the end of the script.
abbrev pub after : List Part → Command → List Part
after l (declare n) = l
after l (equal s t) = met (met l (curry s)) (curry t)
after l (differ s t) = met (met l (curry s)) (curry t)
after l check = l

abbrev pub parts_from : List Part → List Command → List Part
parts_from l [] = l
parts_from l (c ∷ cs) = parts_from (after l c) cs

-- The place of a part in a list of them.
abbrev pub place : List Part → Part → ℕ
place [] p = 0
place (x ∷ l) p = cond (same x p) 0 (suc (place l p))

-- "One tag for each declared symbol in order, then one for each distinct compound part": S symbols are declared, and l are all compound parts.
abbrev pub tag_of : ℕ → List Part → Part → ℕ
tag_of S l (symbol f) = f
tag_of S l (applied p q) = S + place l (applied p q)

-- A compound part's 02: f(left half, right half) = part. (A symbol has none, and none is among the parts.)
abbrev pub record_of : ℕ → List Part → Part → Rec
record_of S l (symbol f) = eq f f
record_of S l (applied p q) = app (tag_of S l p) (tag_of S l q) (tag_of S l (applied p q))

-- The fields that a script becomes (kinds 01 and 02, 05, 06).
pub data Item : Type 0 where
  noted : Rec → Item
  differing : ℕ → ℕ → Item
  checking : Item

abbrev pub records_of : List Item → List Rec
records_of [] = []
records_of (noted r ∷ is) = r ∷ records_of is
records_of (differing a b ∷ is) = records_of is
records_of (checking ∷ is) = records_of is

-- The 02 of each part that is new in a command, with l met before it: "Its 02 stands where the part is first met" ..
abbrev pub new_items : ℕ → List Part → List Part → Command → List Item
new_items S all l c = map (λ p. noted (record_of S all p)) (drop (length l) (after l c))

-- .. "the assertion's 01 or 05 follows".
abbrev pub own_of : ℕ → List Part → Command → List Item
own_of S all (declare n) = []
own_of S all (equal s t) = noted (eq (tag_of S all (curry s)) (tag_of S all (curry t))) ∷ []
own_of S all (differ s t) = differing (tag_of S all (curry s)) (tag_of S all (curry t)) ∷ []
own_of S all check = checking ∷ []

abbrev pub items_from : ℕ → List Part → List Part → List Command → List Item
items_from S all l [] = []
items_from S all l (c ∷ cs) = new_items S all l c ++ (own_of S all c ++ items_from S all (after l c) cs)

-- The whole: N and the items.
abbrev pub parts_of : List Command → List Part
parts_of cs = parts_from [] cs

abbrev pub symbols_of : List Command → ℕ
symbols_of cs = length (arities_of cs)

abbrev pub tags_of : List Command → ℕ
tags_of cs = max 1 (symbols_of cs + length (parts_of cs))

abbrev pub items_of : List Command → List Item
items_of cs = items_from (symbols_of cs) (parts_of cs) [] cs
