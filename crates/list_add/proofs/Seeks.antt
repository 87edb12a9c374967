-- Going round a ring to wake those that use its tags, and to look for one that matches. Assumes nothing.
use Prim.Native.Nat.{ℕ, ◌-◌, ◌≤◌, ◌<◌}
use native.Mathlib.Omega.{arith}
use mathlib.Core.Path.{◌≡◌, refl, ap, ◌∙◌}
use mathlib.Core.Logic.{◌≢◌, ◌⊎◌, inl, inr}
use mathlib.Core.Bool.{Bool}
use mathlib.Core.List.Memᴰ
use mathlib.Core.List.{List, Memᴰ}
use Rattle.table.specs.Map.{left_of, right_of, label_of, Within, before_of, end_of, member_of, place_of, queue_of}
use Rattle.table.proofs.Frame.{seen-within}
use Rattle.list_ways.specs.Rings.{Path, Ahead, away}
use Rattle.list_ways.proofs.Rings.{path-one}
use Rattle.list_ways.proofs.Walking.{ahead-end, Next, ahead-next, away-next}
use Rattle.list_rings.specs.Links.{Ringed}
use Rattle.list_add.specs.State.{On, here, later}
use Rattle.list_add.specs.Waking.{Falling, Woken, Awake, Roused, Legible, Match, Sought, Around}
use Rattle.list_add.proofs.Wakes.{uses-same, others_same, woken-none, woken-then}
use Rattle.meaning.specs.Limits.{most_records, most_tags}
use Rattle.table.specs.Places.{MEMBER, QUEUE, all_of, front_size}

-- The part of a ring that is left, and the whole.
pub record Round (w : List ℕ) (x z : ℕ) (list rest : List ℕ) : Type 0 where
  pub tag : x < most_tags
  pub path : Path (member_of w) (member_of w x) list x
  pub other : (u : ℕ) → Memᴰ u list → u ≢ x
  pub ahead : Ahead most_tags (member_of w) x z rest
  pub sub : (u : ℕ) → Memᴰ u rest → Memᴰ u list

pub round-start : {w : List ℕ} {x z : ℕ} (r : Ringed w x) → z ≡ member_of w x → Round w x z r.rest r.rest
round-start r e = record { tag = r.tag; path = r.ahead.path; other = r.ahead.other; ahead = rw e r.ahead; sub = λ u i. i }

pub round-next : {w : List ℕ} {x z z' : ℕ} {list rest : List ℕ} (d : z ≢ x) (r : Round w x z list rest) → z' ≡ member_of w z → Round w x z' list (ahead-next d r.ahead).rest
round-next d r e = let k = ahead-next d r.ahead in record { tag = r.tag; path = r.path; other = r.other; ahead = rw e k.ahead; sub = λ u i. r.sub u (rw k.is (Memᴰ.tail i)) }

pub round-less : {w : List ℕ} {x z z' : ℕ} {list rest : List ℕ} → z ≢ x → Round w x z list rest → z' ≡ member_of w z → away (member_of w) x most_tags z' < away (member_of w) x most_tags z
round-less {w} {x} {z} {z'} {list} {rest} d r e = rw e (away-next z rest r.ahead d)

-- Waking.
pub record Rousing (w w' : List ℕ) (x z last last' : ℕ) : Type 0 where
  pub woken : Woken w w' last last'
  pub list : List ℕ
  pub rest : List ℕ
  pub round : Round w x z list rest
  pub hit : (u : ℕ) → Memᴰ u list → Memᴰ u rest ⊎ ((b : Bool) → Awake b w w' (end_of b w u))

members-same : {w w' : List ℕ} → Within (all_of QUEUE) w w' → member_of w' ≡ member_of w
members-same f = seen-within MEMBER f (inl (omega arith))

pub rousing-start : {w : List ℕ} {x z last : ℕ} → Ringed w x → last ≤ front_size → z ≡ member_of w x → Rousing w w x z last last
rousing-start r l e = record { woken = woken-none l; list = r.rest; rest = r.rest; round = round-start r e; hit = λ u i. inl i }

-- Those that were awake still are, and those of one more tag.
module _ {w w₁ w₂ : List ℕ} {last last₁ last₂ : ℕ} (f : Woken w w₁ last last₁) (z : ℕ) (g : Woken w₁ w₂ last₁ last₂ × ((b : Bool) → Awake b w₁ w₂ (end_of b w₁ z))) where
  awake-old : (u : ℕ) → ((b : Bool) → Awake b w w₁ (end_of b w u)) → (b : Bool) → Awake b w w₂ (end_of b w u)
  awake-old u a b j o = rw (g.0.same j (a b j o)) (a b j o)

  awake-new : (u : ℕ) → u ≡ z → (b : Bool) → Awake b w w₂ (end_of b w u)
  awake-new u e b j o = g.1 b j (rw (uses-same f.kept b, others_same f.kept b, ← e) o)

pub rousing-more : {w w₁ w₂ : List ℕ} {x z z' last last₁ last₂ : ℕ} → z ≢ x → Rousing w w₁ x z last last₁ → Woken w₁ w₂ last₁ last₂ × ((b : Bool) → Awake b w₁ w₂ (end_of b w₁ z)) → z' ≡ member_of w₂ z
    → Rousing w w₂ x z' last last₂ × (away (member_of w) x most_tags z' < away (member_of w) x most_tags z)
rousing-more {w} {w₁} {w₂} {x} {z} {z'} {last} {last₁} {last₂} d r g e = (
  record {
    woken = woken;
    list = r.list;
    rest = k.rest;
    round = round-next d r.round e';
    hit = λ u i. go u (r.hit u i);
  },
  round-less d r.round e',
)
  where
    woken : Woken w w₂ last last₂
    woken = woken-then r.woken g.0

    e' : z' ≡ member_of w z
    e' = e ∙ ap (λ (f : ℕ → ℕ). f z) (members-same woken.kept)

    k : Next most_tags x (member_of w) z r.rest
    k = ahead-next d r.round.ahead

    go : (u : ℕ) → Memᴰ u r.rest ⊎ ((b : Bool) → Awake b w w₁ (end_of b w u)) → Memᴰ u k.rest ⊎ ((b : Bool) → Awake b w w₂ (end_of b w u))
    go u (inr a) = inr (awake-old r.woken z g u a)
    go u (inl i) = elim (Memᴰ.cases_cons (rw k.is at i)) [ inl q ↦ inr (awake-new r.woken z g u q) | inr j ↦ inl j ]

pub rousing-end : {w w₁ w₂ : List ℕ} {x z last last₁ last₂ : ℕ} → z ≡ x → Rousing w w₁ x z last last₁ → Woken w₁ w₂ last₁ last₂ × ((b : Bool) → Awake b w₁ w₂ (end_of b w₁ x)) → Roused w w₂ x last last₂
rousing-end {w} {w₁} {w₂} {x} {z} {last} {last₁} {last₂} e r g = record {
  woken = woken-then r.woken g.0;
  list = r.list;
  path = r.round.path;
  other = r.round.other;
  hit = λ u i. elim (Memᴰ.cases_cons i) [ inl q ↦ awake-new r.woken x g u q | inr j ↦ go u (r.hit u j) ];
}
  where
    go : (u : ℕ) → Memᴰ u r.rest ⊎ ((b : Bool) → Awake b w w₁ (end_of b w u)) → (b : Bool) → Awake b w w₂ (end_of b w u)
    go u (inr a) = awake-old r.woken x g u a
    go u (inl i) = absurd (Memᴰ.not-nil (rw (ahead-end e r.round.ahead) at i))

-- Looking along one list of uses: none was found before the link p.
pub record Seeking (b : Bool) (w : List ℕ) (head p a c : ℕ) : Type 0 where
  pub low : p ≤ front_size
  pub listed : (j : ℕ) → On (before_of b w) j p → On (before_of b w) j head
  pub left : (j : ℕ) → On (before_of b w) j head → Match w a c j → On (before_of b w) j p

pub seeking-start : {b : Bool} {w : List ℕ} {head a c : ℕ} (z : ℕ) → Falling w → head ≡ end_of b w z → Seeking b w head head a c
seeking-start {b} z h e = record { low = rw e (h.heads b z); listed = λ j o. o; left = λ j o m. o }

pub seeking-more : {b : Bool} {w : List ℕ} {head p p' a c : ℕ} → Falling w → 0 < p → Seeking b w head p a c → (Match w a c (p - 1) → ⊥) → p' ≡ before_of b w (p - 1) → Seeking b w head p' a c × (p' < p)
seeking-more {b} {w} {head} {p} {p'} {a} {c} h l k d e = (
  record {
    low = omega (arith, k.low, fall);
    listed = λ j o. k.listed j (later (omega arith) (rw e at o));
    left = λ j o m. on j m (k.left j o m);
  },
  omega (arith, fall),
)
  where
    fall : p' ≤ p - 1
    fall = rw e (h.falls b (p - 1))

    on : (j : ℕ) → Match w a c j → On (before_of b w) j p → On (before_of b w) j p'
    on j m (here q) = absurd (d (let z : j ≡ p - 1 = omega arith in rw z at m))
    on j m (later {r = r} q o) = let z : r ≡ p - 1 = omega arith in rw (e, ← z) o

pub seeking-found : {b : Bool} {w : List ℕ} {head p a c : ℕ} (z : ℕ) → head ≡ end_of b w z → 0 < p → Seeking b w head p a c → Match w a c (p - 1) → Sought w b (λ u. u ≡ z) a c p
seeking-found {b} {w} {head} {p} z e l k m = record {
  low = k.low;
  found = λ d. (m, (b, z, rw (← e) (k.listed (p - 1) (here (omega arith)))));
  none = λ q. absurd (omega arith);
}

pub seeking-none : {b : Bool} {w : List ℕ} {head p a c : ℕ} (z : ℕ) → head ≡ end_of b w z → p ≡ 0 → Seeking b w head p a c → Sought w b (λ u. u ≡ z) a c 0
seeking-none {b} {w} {head} {p} z e l k = record { low = omega arith; found = λ d. absurd (d refl); none = λ q u i j o m. empty j (k.left j (rw (e, ← i) o) m) }
  where
    empty : (j : ℕ) → On (before_of b w) j p → ⊥
    empty j (here q) = omega arith
    empty j (later q o) = omega arith

-- Round a ring: none was found among the uses of those that were passed.
pub record Searching (b : Bool) (w : List ℕ) (x z a c : ℕ) : Type 0 where
  pub list : List ℕ
  pub rest : List ℕ
  pub round : Round w x z list rest
  pub passed : (u : ℕ) → Memᴰ u list → Memᴰ u rest ⊎ ((j : ℕ) → On (before_of b w) j (end_of b w u) → Match w a c j → ⊥)

pub searching-start : {b : Bool} {w : List ℕ} {x z a c : ℕ} → Ringed w x → z ≡ member_of w x → Searching b w x z a c
searching-start r e = record { list = r.rest; rest = r.rest; round = round-start r e; passed = λ u i. inl i }

pub searching-more : {b : Bool} {w : List ℕ} {x z z' a c p : ℕ} → z ≢ x → Searching b w x z a c → Sought w b (λ u. u ≡ z) a c p → p ≡ 0 → z' ≡ member_of w z → Searching b w x z' a c × (away (member_of w) x most_tags z' < away (member_of w) x most_tags z)
searching-more {b} {w} {x} {z} {z'} {a} {c} {p} d r s n e = (record { list = r.list; rest = k.rest; round = round-next d r.round e; passed = λ u i. go u (r.passed u i) }, round-less d r.round e)
  where
    k : Next most_tags x (member_of w) z r.rest
    k = ahead-next d r.round.ahead

    go : (u : ℕ) → Memᴰ u r.rest ⊎ ((j : ℕ) → On (before_of b w) j (end_of b w u) → Match w a c j → ⊥) → Memᴰ u k.rest ⊎ ((j : ℕ) → On (before_of b w) j (end_of b w u) → Match w a c j → ⊥)
    go u (inr h) = inr h
    go u (inl i) = elim (Memᴰ.cases_cons (rw k.is at i)) [ inl q ↦ inr (s.none n u q) | inr j ↦ inl j ]

pub searching-found : {b : Bool} {w : List ℕ} {x z a c p : ℕ} → Sought w b (λ u. u ≡ z) a c p → p ≢ 0 → Sought w b (Around w x) a c p
searching-found s d = record { low = s.low; found = s.found; none = λ q. absurd (d q) }

pub searching-end : {b : Bool} {w : List ℕ} {x z a c p : ℕ} → z ≡ x → Searching b w x z a c → Sought w b (λ u. u ≡ x) a c p → Sought w b (Around w x) a c p
searching-end {b} {w} {x} {z} {a} {c} {p} e r s = record { low = s.low; found = s.found; none = λ q u i j o m. none q u i j o m }
  where
    none : p ≡ 0 → (u : ℕ) → Around w x u → (j : ℕ) → On (before_of b w) j (end_of b w u) → Match w a c j → ⊥
    none q u i j o m = elim (Memᴰ.cases_cons i.3) [ inl y ↦ s.none q u y j o m | inr y ↦ go (r.passed u (rw same y)) ]
      where
        same : r.list ≡ i.0
        same = path-one r.round.path i.1 (λ h. r.round.other x h refl) (λ h. i.2 x h refl)

        go : Memᴰ u r.rest ⊎ ((j : ℕ) → On (before_of b w) j (end_of b w u) → Match w a c j → ⊥) → ⊥
        go (inl h) = Memᴰ.not-nil (rw (ahead-end e r.round.ahead) at h)
        go (inr h) = h j o m

pub rousing-tag : {w w' : List ℕ} {x z last last' : ℕ} → z ≢ x → Rousing w w' x z last last' → z < most_tags
rousing-tag d r = (ahead-next d r.round.ahead).tag

pub searching-tag : {b : Bool} {w : List ℕ} {x z a c : ℕ} → z ≢ x → Searching b w x z a c → z < most_tags
searching-tag d r = (ahead-next d r.round.ahead).tag

-- The record of a place that is in can be read.
module _ {w : List ℕ} {r : ℕ} (i : ℕ) (h : Legible w) (q : queue_of w i ≡ 1) (e : r ≡ place_of w i) where
  pub legible-place : r ≤ most_records
  legible-place = rw e (h.read i (λ z. omega arith)).0

  pub legible-left : {x : ℕ} → x ≡ left_of w r → x < most_tags
  legible-left k = rw (k, e) (h.read i (λ z. omega arith)).1

  pub legible-right : {x : ℕ} → x ≡ right_of w r → x < most_tags
  legible-right k = rw (k, e) (h.read i (λ z. omega arith)).2

pub match-left : {r x s : ℕ} (w : List ℕ) (i : ℕ) → r ≡ place_of w i → x ≡ left_of w r → s ≡ label_of w x → s ≡ label_of w (left_of w (place_of w i))
match-left w i e k l = l ∙ ap (label_of w) (k ∙ ap (left_of w) e)

pub match-right : {r x s : ℕ} (w : List ℕ) (i : ℕ) → r ≡ place_of w i → x ≡ right_of w r → s ≡ label_of w x → s ≡ label_of w (right_of w (place_of w i))
match-right w i e k l = l ∙ ap (label_of w) (k ∙ ap (right_of w) e)
