-- One that waits is looked up: what is found has its argument labels, so their results are equal by the places that are in. Assumes nothing.
use Prim.Native.Nat.{ℕ, suc, ◌-◌, ◌≤◌, ◌<◌}
use native.Mathlib.Omega.{arith}
use native.Mathlib.Decide.{ℕ_discrete}
use mathlib.Core.Path.{◌≡◌, refl, sym, ap, ◌∙◌}
use mathlib.Core.Logic.{◌≢◌}
use mathlib.Core.Bool.{Bool, true, false}
use mathlib.Core.List.{List, ◌∷◌, Memᴰ}
use borrow.Author.Tests.{eq-eqb, ne_eqb}
use Rattle.meaning.specs.Following.{eq, app, Follows, flip, chain, congruent}
use Rattle.meaning.proofs.Reference.{Small}
use Rattle.meaning.specs.Limits.{most_records, most_tags}
use Rattle.table.specs.Places.{EQUATION}
use Rattle.table.specs.Map.{left_of, right_of, result_of, label_of, rec_at, member_of, place_of, queue_of}
use Rattle.table.proofs.Frame.{length-gather, get_or-gather}
use Rattle.list_ways.specs.Rings.{Ring, Apart}
use Rattle.list_ways.proofs.Rings.{Classes}
use Rattle.list_rings.specs.Links.{Ringed}
use Rattle.list_rings.proofs.Linking.{standing-classes, ringed-of}
use Rattle.list_add.specs.State.{arg_of, In}
use Rattle.list_add.specs.Waking.{Waits, Legible, Sought, Around}
use Rattle.list_add.specs.Busy.{InSet, App, Busy, Fits, twin, alone, Twinned}
use Rattle.list_add.proofs.Turns.{on-app, busy-falling, pop-low}

pub small-tags : (N : ℕ) (w : List ℕ) (k : ℕ) → Small N (rec_at w k) → (left_of w k < N) × (right_of w k < N) × (result_of w k ≢ EQUATION → result_of w k < N)
small-tags N w k h = go (ℕ_discrete (result_of w k) EQUATION)
  where
    go : Dec (result_of w k ≡ EQUATION) → (left_of w k < N) × (right_of w k < N) × (result_of w k ≢ EQUATION → result_of w k < N)
    go (yes e) = let z : (left_of w k < N) × (right_of w k < N) = rw (eq-eqb (result_of w k) EQUATION e) at h in (z.0, z.1, λ d. absurd (d e))
    go (no e) = let z : (left_of w k < N) × (right_of w k < N) × (result_of w k < N) = rw (ne_eqb (result_of w k) EQUATION e) at h in (z.0, z.1, λ d. z.2)

module _ {N len n first last k : ℕ} {w : List ℕ} (B : Busy N len n w first last k) where
  classes : Classes most_tags (label_of w) (member_of w)
  classes = standing-classes B.standing

  -- The record of a place that is in.
  pub tags-of : (j : ℕ) → In w j → (place_of w j ≤ most_records) × (left_of w (place_of w j) < most_tags) × (right_of w (place_of w j) < most_tags) × (result_of w (place_of w j) ≢ EQUATION → result_of w (place_of w j) < most_tags)
  tags-of j i =
      let p = B.in-named j i in
      let l = B.named j p.0 in
      let e : place_of w j ≡ suc (place_of w j - 1) = omega (arith, p.1) in
      let s : Small N (rec_at w (place_of w j)) = rw e (B.loaded.small (place_of w j - 1) (omega (arith, p.1))) in
      let t = small-tags N w (place_of w j) s in
      (omega (arith, B.loaded.most), omega (arith, t.0, B.loaded.few), omega (arith, t.1, B.loaded.few), λ d. omega (arith, t.2 d, B.loaded.few))

  pub busy-legible : Legible w
  busy-legible = record { falling = busy-falling B; read = λ j i. let t = tags-of j i in (t.0, t.1, t.2) }

  pub label-low : (x : ℕ) → x < most_tags → label_of w x < most_tags
  label-low x l = classes.low x l

  pub label-ringed : (x : ℕ) → x < most_tags → Ringed w (label_of w x)
  label-ringed x l = ringed-of B.standing.long (classes.low x l) classes (classes.flat x)

  around : (x z : ℕ) → label_of w x ≡ x → label_of w z ≡ x → Around w x z
  around x z o e = (r.others, r.path, (λ v i. (r.inside v i).1), go (ℕ_discrete z x))
    where
      r : Ring (label_of w) (member_of w) x
      r = classes.ring x o

      go : Dec (z ≡ x) → Memᴰ z (x ∷ r.others)
      go (yes q) = Memᴰ.head q
      go (no q) = Memᴰ.tail (r.all z e q)

  -- What the search tells of place j, by either argument.
  pub twinned : {p x a c : ℕ} (b : Bool) (j : ℕ) → a ≡ label_of w (left_of w (place_of w j)) → c ≡ label_of w (right_of w (place_of w j)) → x ≡ label_of w (arg_of b w (place_of w j)) → Sought w b (Around w x) a c p → Twinned w j p
  twinned {p} {x} {a} {c} b j ea ec ex s = record {
    low = s.low;
    found = λ d. let f = s.found d in let m = f.0 in ((in-of (p - 1) m.rests, on-app f.1.0 f.1.1 B.filed f.1.2 (B.in-named (p - 1) (in-of (p - 1) m.rests)).1), rw (← ea, ← ec) m);
    none = λ e. alone (λ q g d l r. s.none e (arg_of b w (place_of w q)) (rw ex (around (label_of w (arg_of b w (place_of w j))) (arg_of b w (place_of w q)) (classes.flat (arg_of b w (place_of w j))) (sym (same b q l r)))) q
        (B.filed.filed b q (B.in-named q g.0).0 (B.in-named q g.0).1 g.1) (record { rests = rests q g.0 d; left = sym l ∙ sym ea; right = sym r ∙ sym ec }));
  }
    where
      in-of : (q : ℕ) → queue_of w q ≡ 1 → In w q
      in-of q e z = omega arith

      rests : (q : ℕ) → In w q → (Waits w q → ⊥) → queue_of w q ≡ 1
      rests q i d = elim (ℕ_discrete (queue_of w q) 1) [ yes e ↦ e | no e ↦ absurd (d (omega (arith, i, e))) ]

      same : (b : Bool) (q : ℕ) → label_of w (left_of w (place_of w j)) ≡ label_of w (left_of w (place_of w q)) → label_of w (right_of w (place_of w j)) ≡ label_of w (right_of w (place_of w q)) → label_of w (arg_of b w (place_of w j)) ≡ label_of w (arg_of b w (place_of w q))
      same true q l r = r
      same false q l r = l

  -- An application that is in, as a record.
  in-set : (j : ℕ) → App w j → InSet len n w (app (left_of w (place_of w j)) (right_of w (place_of w j)) (result_of w (place_of w j)))
  in-set j g =
      let p = B.in-named j g.0 in
      let l = B.named j p.0 in
      let e : suc (place_of w j - 1) ≡ place_of w j = omega (arith, p.1) in
      let i : place_of w j - 1 < len = omega (arith, p.1) in (
        place_of w j,
        (j, p.0, g.0, refl),
        record {
          place = place_of w j - 1;
          number = sym e;
          stands = rw (length-gather (λ k. rec_at w (suc k)) len) i;
          is = get_or-gather (λ k. rec_at w (suc k)) len (place_of w j - 1) (eq 0 0) i ∙ ap (rec_at w) e ∙ rw (ne_eqb (result_of w (place_of w j)) EQUATION g.1);
        },
      )

  level : (x y : ℕ) → label_of w x ≡ label_of w y → Follows (InSet len n w) x y
  level x y e = let z : Follows (InSet len n w) (label_of w x) y = rw e (flip (B.sound y)) in chain (B.sound x) z

  -- Results of applications with equal argument labels follow.
  pub twins-follow : (i j : ℕ) → App w i → App w j → label_of w (left_of w (place_of w i)) ≡ label_of w (left_of w (place_of w j)) → label_of w (right_of w (place_of w i)) ≡ label_of w (right_of w (place_of w j))
      → Follows (InSet len n w) (label_of w (result_of w (place_of w i))) (label_of w (result_of w (place_of w j)))
  twins-follow i j g h l r = chain (flip (B.sound (result_of w (place_of w i)))) (chain (congruent (in-set i g) (in-set j h) (level _ _ l) (level _ _ r)) (B.sound (result_of w (place_of w j))))

  pub labels_apart : {u v : ℕ} (x y : ℕ) → x < most_tags → y < most_tags → u ≡ label_of w x → v ≡ label_of w y → u ≢ v → Apart most_tags (label_of w) u v
  labels_apart x y a b p q d = rw (p, q) (record { x-tag = classes.low x a; y-tag = classes.low y b; x-own = classes.flat x; y-own = classes.flat y; differ = λ e. d (p ∙ e ∙ sym q) })

-- The first that waits is in, and is an application.
pub waits_in : {N len n first last k j : ℕ} {w : List ℕ} → Busy N len n w first last k → first ≡ suc j → In w j
waits_in B f e = omega (arith, (pop-low B f).1)

pub waits-app : {N len n first last k j : ℕ} {w : List ℕ} → Busy N len n w first last k → first ≡ suc j → App w j
waits-app {j = j} B f = (waits_in B f, B.waits-app j (pop-low B f).1)

pub match-result : {r x s : ℕ} (w : List ℕ) (i : ℕ) → r ≡ place_of w i → x ≡ result_of w r → s ≡ label_of w x → s ≡ label_of w (result_of w (place_of w i))
match-result w i e k l = l ∙ ap (label_of w) (k ∙ ap (result_of w) e)

pub twinned-fits : {w : List ℕ} {j p : ℕ} → Twinned w j p → 0 < p → label_of w (result_of w (place_of w j)) ≡ label_of w (result_of w (place_of w (p - 1))) → Fits w j
twinned-fits {w} {j} {p} t l e = let f = t.found (λ z. omega arith) in twin (p - 1) f.0 (λ h. omega (arith, f.1.rests)) (sym f.1.left) (sym f.1.right) e
