-- The lists of uses are gone along, tag by tag: all applications that have one of the tags for an argument wait then. Rests on the laws of filed tables (Filing), of a place taken out (Placing)
-- and of frames (Views). Assumes nothing.
use Prim.Native.Nat.{ℕ, suc, ◌+◌, ◌-◌, ◌≤◌, ◌<◌}
use native.Mathlib.Omega.{arith}
use mathlib.Core.Path.{◌≡◌, refl, ap, ◌∙◌}
use mathlib.Core.Logic.{◌⊎◌, inl, inr}
use mathlib.Core.Bool.{Bool, true, false}
use mathlib.Core.List.{List}
use Rattle.table.specs.Map.{left_of, right_of, label_of, use_of, more_of, chain_of, Within}
use Rattle.table.proofs.Frame.{within-refl, within-trans}
use Rattle.table_labels.proofs.Chain.{by-same}
use Rattle.table.proofs.Kept.{lefts, rights, results}
use Rattle.table.specs.Places.{file_part}
use Rattle.all_index.specs.declared.Front.{Front}
use Rattle.all_index.specs.Filing.{On, further}
use Rattle.all_index.specs.State.{eqn_at, Filing, Queued, Indexed, Touched}
use Rattle.all_index.proofs.Views.{eqn-at, wide, labels, mores, indexed-same}
use Rattle.all_index.proofs.Filing.{on_none, on-split}
use Rattle.all_index.proofs.Placing.{on-here}

-- Nothing was taken out; what is taken out after another.
pub touched-refl : {t : Front} {w : List ℕ} {first : ℕ} → Filing t w → Queued t w first → Touched t w w first
touched-refl g q = record { frame = within-refl _; filing = g; queue = q; still = λ r z. z }

pub touched-trans : {t : Front} {w w' w'' : List ℕ} {a b : ℕ} → Touched t w w' a → Touched t w' w'' b → Touched t w w'' b
touched-trans x y = record {
  frame = within-trans x.frame y.frame;
  filing = y.filing;
  queue = y.queue;
  still = λ r z. y.still r (x.still r z);
}

pub touched-indexed : {t : Front} {w w' : List ℕ} {a b : ℕ} → Indexed t w a → Touched t w w' b → Indexed t w' b
touched-indexed h x = indexed-same x.frame h x.filing x.queue

-- The list of a tag is gone along: what it came by waits.
pub record Along (t : Front) (second : Bool) (w : List ℕ) (start : ℕ) (w' : List ℕ) (p to : ℕ) : Type 0 where
  pub touched : Touched t w w' to
  pub place : p ≤ t.places
  pub waits : (j : ℕ) → On (more_of second w) start j → (chain_of w' j ≡ 0) ⊎ On (more_of second w) p j
  pub rest : (j : ℕ) → On (more_of second w) p j → On (more_of second w) start j

module _ {t : Front} (second : Bool) {w : List ℕ} {first : ℕ} (start x : ℕ) (h : Indexed t w first) (e : start ≡ use_of second w x) where
  pub along-none : Along t second w start w start first
  along-none = record { touched = touched-refl h.filing h.queue; place = rw e ((h.uses second).heads x); waits = λ j o. inr o; rest = λ j o. o }

  -- The place to be taken out is that of an application.
  pub along-app : {w₁ : List ℕ} (p to : ℕ) → Along t second w start w₁ p to → 0 < p → eqn_at w (p - 1) ≡ false
  along-app p to a l = (h.uses second).apps x (p - 1) (rw (← e) (a.rest (p - 1) (on-here p l)))

  pub along-step : {w₁ w' : List ℕ} (p to p' to' : ℕ) → Along t second w start w₁ p to → 0 < p → Touched t w₁ w' to' → chain_of w' (p - 1) ≡ 0 → p' ≡ more_of second w' (p - 1)
      → (p' < p) × Along t second w start w' p' to'
  along-step {w₁} {w'} p to p' to' a l c z q = (
    omega (arith, less),
    record {
      touched = touched-trans a.touched c;
      place = omega (arith, less, a.place);
      waits = λ j o. elim (a.waits j o) [
        | inl y ↦ inl (c.still j y)
        | inr u ↦ elim (on-split u) [ inl s ↦ inl (rw s z) | inr v ↦ inr (rw next v) ]
      ];
      rest = λ j o. a.rest j (rw (← up) (further (rw next at o)));
    },
  )
    where
      up : suc (p - 1) ≡ p
      up = omega arith

      next : p' ≡ more_of second w (p - 1)
      next = q ∙ ap (λ (f : ℕ → ℕ). f (p - 1)) (mores (within-trans a.touched.frame c.frame) second)

      less : p' ≤ p - 1
      less = rw next ((h.uses second).falls (p - 1) (omega (arith, a.place)) (along-app p to a l))

  pub along-all : {w' : List ℕ} (p to : ℕ) → Along t second w start w' p to → p ≡ 0 → (j : ℕ) → On (more_of second w) (use_of second w x) j → chain_of w' j ≡ 0
  along-all p to a z j o = elim (a.waits j (rw e o)) [ inl y ↦ y | inr u ↦ absurd (on_none (rw z at u)) ]

-- Both lists of a tag tell all applications that have it for an argument.
pub tagged : {t : Front} {w w₁ w' : List ℕ} {first a b : ℕ} (x : ℕ) → Indexed t w first → Touched t w w₁ a → ((j : ℕ) → On (more_of false w) (use_of false w x) j → chain_of w₁ j ≡ 0)
    → Touched t w₁ w' b → ((j : ℕ) → On (more_of true w₁) (use_of true w₁ x) j → chain_of w' j ≡ 0)
    → Touched t w w' b × ((j : ℕ) → j < t.places → eqn_at w j ≡ false → (left_of w (suc j) ≡ x) ⊎ (right_of w (suc j) ≡ x) → chain_of w' j ≡ 0)
tagged {t} {w} {w₁} {w'} x h c f d g = (
  touched-trans c d,
  λ j k q s. elim s [
    | inl e ↦ d.still j (f j (rw (← e) ((h.uses false).listed j k q)))
    | inr e ↦ (let e₁ : right_of w₁ (suc j) ≡ x = rw (rights (wide c.frame)) e in
        g j (rw (← e₁) (((touched-indexed h c).uses true).listed j k (eqn-at (wide c.frame) j ∙ q))))
  ],
)

-- The tags below x were gone by: the applications wait that have one labelled hi for an argument.
pub record Swept (t : Front) (hi : ℕ) (w w' : List ℕ) (x to : ℕ) : Type 0 where
  pub touched : Touched t w w' to
  pub waits : (y : ℕ) → y < x → label_of w y ≡ hi → (j : ℕ) → j < t.places → eqn_at w j ≡ false → (left_of w (suc j) ≡ y) ⊎ (right_of w (suc j) ≡ y) → chain_of w' j ≡ 0

pub swept_none : {t : Front} {hi from top : ℕ} {w : List ℕ} {first : ℕ} → Indexed t w first → ((x : ℕ) → label_of w x ≡ hi → (from ≤ x) × (x ≤ top)) → Swept t hi w w from first
swept_none i h = record { touched = touched-refl i.filing i.queue; waits = λ y l e. absurd (omega (arith, (h y e).0)) }

pub swept_step : {t : Front} {hi : ℕ} {w w₁ w' : List ℕ} (x to to' : ℕ) → Swept t hi w w₁ x to → Touched t w₁ w' to'
    → ((j : ℕ) → j < t.places → eqn_at w₁ j ≡ false → label_of w₁ x ≡ hi → (left_of w₁ (suc j) ≡ x) ⊎ (right_of w₁ (suc j) ≡ x) → chain_of w' j ≡ 0)
    → Swept t hi w w' (x + 1) to'
swept_step {t} {hi} {w} {w₁} {w'} x to to' s c h = record {
  touched = touched-trans s.touched c;
  waits = λ y l e j k q d. by-same y x
      (λ z. here' j k q (rw z at e) (rw z at d))
      (λ n. c.still j (s.waits y (omega arith) e j k q d));
}
  where
    f : Within file_part w w₁
    f = s.touched.frame

    here' : (j : ℕ) → j < t.places → eqn_at w j ≡ false → label_of w x ≡ hi → (left_of w (suc j) ≡ x) ⊎ (right_of w (suc j) ≡ x) → chain_of w' j ≡ 0
    here' = rw (← lefts (wide f), ← rights (wide f), ← results (wide f), ← labels f) h

pub swept_all : {t : Front} {hi from top : ℕ} {w w' : List ℕ} (x to : ℕ) → ((y : ℕ) → label_of w y ≡ hi → (from ≤ y) × (y ≤ top)) → top < x → Swept t hi w w' x to
    → (j : ℕ) → j < t.places → eqn_at w j ≡ false → (label_of w (left_of w (suc j)) ≡ hi) ⊎ (label_of w (right_of w (suc j)) ≡ hi) → chain_of w' j ≡ 0
swept_all {w = w} x to g l s j k q d =
    elim d [
      | inl e ↦ s.waits (left_of w (suc j)) (omega (arith, g (left_of w (suc j)) e)) e j k q (inl refl)
      | inr e ↦ s.waits (right_of w (suc j)) (omega (arith, g (right_of w (suc j)) e)) e j k q (inr refl)
    ]
