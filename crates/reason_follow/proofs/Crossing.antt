-- Crossing the newest join between two tags leaves two pairs that older joins bring together, one on each side; a join of two
-- applications leaves their argument pairs. So marks that support themselves still do when a join is marked after these. Assumes nothing.
use Prim.Native.Nat.{ℕ, suc, ◌+◌, ◌-◌, ◌≤◌, ◌<◌}
use native.Mathlib.Omega.{arith}
use native.Mathlib.Decide.{ℕ_discrete, dec_lt}
use mathlib.Core.Path.{◌≡◌, refl, ◌∙◌, ap, fun_ext}
use mathlib.Core.Logic.{◌≢◌, ◌⊎◌, inl, inr}
use mathlib.Core.Bool.{true}
use mathlib.Core.List.{List, ◌++◌}
use lib.Dec.{eqb}
use borrow.Author.Tests.{eq-eqb}
use lib.ListN.{set, length, take, drop}
use Rattle.meaning.specs.Following.{Rec}
use Rattle.meaning.specs.Joins.{Join, Supported, put}
use Rattle.meaning.specs.Needed.{Crosses}
use Rattle.meaning.proofs.Forest.{newest}
use Rattle.meaning.proofs.Log.{put-hit, put-miss}
use Rattle.meaning.specs.Limits.{most_records, most_tags}
use Rattle.table.specs.Map.{left_of, right_of, parent_of, age_of, first_of, second_of, label_of, mark_of, join_at, Within}
use Rattle.table_labels.specs.Parts.{Fills}
use Rattle.table_labels.proofs.Views.{lent-within, lent_at}
use Rattle.table.proofs.Frame.{seen_at, seen-in, seen-out, within-refl, within-trans, within_wider, within-set}
use Rattle.table.specs.Past.{Past}
use Rattle.table.specs.Places.{LABEL, LIST, Large, MARKS, NEXT, SAVED, all_of, closure_part, from_to, list_part}
use Rattle.table_labels.specs.Parts.{Fresh}
use Rattle.moment.specs.Meeting.{leader_at, Met}
use Rattle.moment.specs.Deep.{MetBefore}
use Rattle.moment.specs.Holding.{Holds, marked}
use Rattle.reason_follow.specs.Shown.{Taken, Forgot, order_part, taken_part}
use Rattle.reason_follow.specs.Ways.{follow_part}
use Rattle.reason_follow.specs.Tracing.{Together, Crossed, Sided, Caused, Unmarked}
use Rattle.moment.proofs.Kept.{kept-parents, kept_ages, kept-holds, kept-marks, holds-fewer}
use Rattle.moment.proofs.Known.{join_one, join-two}

-- The numbers of a join that is there are in their ranges.
pub record Ranged (w : List ℕ) (b : ℕ) : Type 0 where
  pub age : b < most_tags
  pub first : first_of w b ≤ most_records
  pub second : second_of w b ≤ most_records
  pub u-tag : (join_at w b).u < most_tags
  pub v-tag : (join_at w b).v < most_tags

pub holds-ranged : {w : List ℕ} {b : ℕ} → Holds w (suc b) → Ranged w b
holds-ranged {w} {b} h = go (ℕ_discrete (second_of w b) 0)
  where
    l : b < h.joins
    l = omega (arith, h.reach)

    go : Dec (second_of w b ≡ 0) → Ranged w b
    go (yes z) =
        let o = join_one h.past b l z in
        record {
          age = omega (arith, h.reach, h.past.low, h.past.loaded.few);
          first = omega (arith, o.first.most, h.past.loaded.most);
          second = omega arith;
          u-tag = omega (arith, o.first.small.0, h.past.loaded.few);
          v-tag = omega (arith, o.first.small.1, h.past.loaded.few);
        }
    go (no z) =
        let o = join-two h.past b l z in
        record {
          age = omega (arith, h.reach, h.past.low, h.past.loaded.few);
          first = omega (arith, o.first.most, h.past.loaded.most);
          second = omega (arith, o.second.most, h.past.loaded.most);
          u-tag = omega (arith, o.first.small.2, h.past.loaded.few);
          v-tag = omega (arith, o.second.small.2, h.past.loaded.few);
        }

-- Whichever end has the leader of s is on its side.
module _ {w : List ℕ} {s t b : ℕ} (X : Crossed w s t b) where
  crossing : ((leader_at w b s ≡ leader_at w b (join_at w b).u) × (leader_at w b (join_at w b).v ≡ leader_at w b t))
      ⊎ ((leader_at w b s ≡ leader_at w b (join_at w b).v) × (leader_at w b (join_at w b).u ≡ leader_at w b t))
  crossing = newest (join_at w) X.holds.joins (parent_of w) (age_of w) most_tags X.holds.past.history b (omega (arith, X.holds.reach)) s t
      (X.met.joined (holds-ranged X.holds).age) (X.met.apart b (omega arith))

  pub sided-over : leader_at w b s ≡ leader_at w b (join_at w b).u → Sided w s t b (join_at w b).u (join_at w b).v
  sided-over q = elim crossing [
    | inl h ↦ record { near-tag = (holds-ranged X.holds).u-tag; far-tag = (holds-ranged X.holds).v-tag; from = h.0; onto = h.1; either = inl (refl, refl) }
    | inr h ↦ absurd (X.met.apart b (omega arith) (q ∙ h.1))
  ]

  pub sided-back : leader_at w b s ≢ leader_at w b (join_at w b).u → Sided w s t b (join_at w b).v (join_at w b).u
  sided-back q = elim crossing [
    | inl h ↦ absurd (q h.0)
    | inr h ↦ record { near-tag = (holds-ranged X.holds).v-tag; far-tag = (holds-ranged X.holds).u-tag; from = h.0; onto = h.1; either = inr (refl, refl) }
  ]

-- The argument pairs of a join of two applications.
pub record Pairs (w : List ℕ) (b : ℕ) : Type 0 where
  pub lefts : Together w (left_of w (first_of w b)) (left_of w (second_of w b)) b
  pub rights : Together w (right_of w (first_of w b)) (right_of w (second_of w b)) b

pub holds-pairs : {w : List ℕ} {b : ℕ} → Holds w (suc b) → second_of w b ≢ 0 → Pairs w b
holds-pairs {w} {b} h z =
    let l : b < h.joins = omega (arith, h.reach) in
    let o = join-two h.past b l z in
    let a = h.past.history.then b (omega arith) in
    record {
      lefts = record { holds = holds-fewer (omega arith) h; from = omega (arith, o.first.small.0, h.past.loaded.few); to = omega (arith, o.second.small.0, h.past.loaded.few); equal = a.labels _ _ o.lefts };
      rights = record { holds = holds-fewer (omega arith) h; from = omega (arith, o.first.small.1, h.past.loaded.few); to = omega (arith, o.second.small.1, h.past.loaded.few); equal = a.labels _ _ o.rights };
    }

-- What following writes changes nothing of the rest.
pub wider : {w w' : List ℕ} → Within follow_part w w' → Within (from_to LIST.at SAVED.at) w w'
wider f = within_wider (from_to LIST.at SAVED.at) (omega arith) (omega arith) f

pub kept-leader : {w w' : List ℕ} → Within follow_part w w' → (a x : ℕ) → leader_at w' a x ≡ leader_at w a x
kept-leader f a x = rw (kept-parents (wider f), kept_ages (wider f))

pub kept-still : {w w' : List ℕ} {a : ℕ} → Within follow_part w w' → Holds w a → Holds w' a
kept-still f = kept-holds (wider f)

pub kept-together : {w w' : List ℕ} {s t b : ℕ} → Within follow_part w w' → Together w s t b → Together w' s t b
kept-together {s = s} {t = t} {b = b} f h = record { holds = kept-still f h.holds; from = h.from; to = h.to; equal = rw (kept-leader f b s, kept-leader f b t) h.equal }

-- The newest join between s and t, in the words of the mathematics.
pub crosses-of : {w : List ℕ} {s t b near far : ℕ} → Met w s t b → Sided w s t b near far → (N len n : ℕ) → Past N len w n → b ≤ n → Crosses (join_at w) s t b near far
crosses-of {w} {s} {t} {b} {near} {far} M d N len n P l =
    let A = P.history.then b l in
    record { apart = λ j. M.apart b (omega arith) (A.labels s t j); from = A.joins s near d.from; onto = A.joins far t d.onto; either = d.either }

pub marked-set : (w : List ℕ) (b : ℕ) → b < most_tags → Large w → marked (set w (MARKS.at + b) 1) ≡ put b true (marked w)
marked-set w b l h = fun_ext (λ a. go a (ℕ_discrete a b))
  where
    mark : mark_of (set w (MARKS.at + b) 1) ≡ put b 1 (mark_of w)
    mark = seen-in MARKS w b 1 l (omega arith)

    go : (a : ℕ) → Dec (a ≡ b) → marked (set w (MARKS.at + b) 1) a ≡ put b true (marked w) a
    go a (yes q) = ap (λ (f : ℕ → ℕ). eqb (f a) 1) mark ∙ rw (q, put-hit b 1 (mark_of w), put-hit b true (marked w)) refl
    go a (no q) = ap (λ (f : ℕ → ℕ). eqb (f a) 1) mark ∙ rw (put-miss b 1 (mark_of w) a q, put-miss b true (marked w) a q) refl

-- What a call needs of its own callees.
pub age-low : {w : List ℕ} {limit : ℕ} → Holds w limit → limit ≤ most_tags
age-low h = omega (arith, h.reach, h.past.history.room)

pub crossed-of : {w : List ℕ} {s t limit b : ℕ} → Together w s t limit → MetBefore w limit s t b → (b < limit) × Crossed w s t b
crossed-of {w} {s} {t} {limit} {b} h m = go (dec_lt b limit)
  where
    go : Dec (b < limit) → (b < limit) × Crossed w s t b
    go (yes l) = (l, record { holds = holds-fewer l h.holds; from = h.from; to = h.to; met = record { most = omega (arith, age-low h.holds); joined = λ k. m.joined l; apart = m.apart } })
    go (no l) = absurd (m.apart limit (omega (arith, m.most)) h.equal)

pub caused-lefts : {w : List ℕ} {b q a a' c c' : ℕ} → Holds w (suc b) → Caused w b q a a' c c' → q ≢ 0 → Together w a a' b
caused-lefts h k z = rw (k.a-is, k.a'-is) (holds-pairs h (λ e. z (k.second_is ∙ e))).lefts

pub caused-rights : {w : List ℕ} {b q a a' c c' : ℕ} → Holds w (suc b) → Caused w b q a a' c c' → q ≢ 0 → Together w c c' b
caused-rights h k z = rw (k.c-is, k.c'-is) (holds-pairs h (λ e. z (k.second_is ∙ e))).rights

-- Taking the marks off, one by one.
pub unmarked : {n : ℕ} (w w' v : List ℕ) → Large w → n ≤ most_tags → length v ≡ length (take (MARKS.at + n - MARKS.at) (drop MARKS.at w)) → w' ≡ take MARKS.at w ++ (v ++ drop (MARKS.at + n - MARKS.at) (drop MARKS.at w)) → Fills v 0 → Unmarked w w' n
unmarked {n} w w' v long l s e h =
    let c = MARKS.at + n - MARKS.at in
    record {
      kept = within_wider (all_of MARKS) (omega arith) (omega arith) (lent-within MARKS.at c w w' v (omega arith) s e);
      none = λ a k. seen_at MARKS w' a (omega arith) ∙ lent_at MARKS.at c w w' v (omega arith) s e (λ i. 0) h a (omega arith);
    }

-- Where no join is marked, the marked ones rest on each other.
pub unmarked-supported : {w w' : List ℕ} {n : ℕ} (rs : List Rec) (e : ℕ → Join) → Unmarked w w' n → Supported rs e (marked w') n
unmarked-supported {w} {w'} rs e u a l t = absurd (rw (u.none a l) at t)

-- Taking a join: it is marked already; or it is now.
pub taken-again : {w : List ℕ} {b : ℕ} → mark_of w b ≡ 1 → Taken w w b
taken-again {w} {b} q = record { kept = within-refl w; marks = fun_ext (λ a. go a (ℕ_discrete a b)) }
  where
    go : (a : ℕ) → Dec (a ≡ b) → marked w a ≡ put b true (marked w) a
    go a (yes z) = rw (z, put-hit b true (marked w)) (eq-eqb (mark_of w b) 1 q)
    go a (no z) = rw (put-miss b true (marked w) a z) refl

pub taken-first : {w w₁ w₂ : List ℕ} {b : ℕ} → Large w → b < most_tags → Within order_part w w₁ → w₂ ≡ set w₁ (MARKS.at + b) 1 → Taken w w₂ b
taken-first {w} {w₁} {w₂} {b} h l f e = record {
  kept = within-trans (within_wider taken_part (omega arith) (omega arith) f) (rw e (within-set taken_part w₁ (MARKS.at + b) 1 (omega arith) (omega arith)));
  marks = ap marked e ∙ marked-set w₁ b l (omega (arith, f.size)) ∙ ap (put b true) (kept-marks (within_wider list_part (omega arith) (omega arith) f));
}

pub ordered : (w : List ℕ) {w₁ w₂ : List ℕ} (i j u v : ℕ) → most_tags ≤ i → i < most_records → most_tags ≤ j → j < most_records → w₁ ≡ set w (NEXT.at + i) u → w₂ ≡ set w₁ (NEXT.at + j) v → Within order_part w w₂
ordered w {w₁} {w₂} i j u v l h l' h' p q =
    within-trans {w' = w₁} (rw p (within-set order_part w (NEXT.at + i) u (omega arith) (omega arith))) (rw q (within-set order_part w₁ (NEXT.at + j) v (omega arith) (omega arith)))

pub forgot : {w w₁ w₂ : List ℕ} {i : ℕ} → i < most_records → Fresh w w₁ → w₂ ≡ set w₁ (NEXT.at + i) 0 → Forgot w w₂
forgot {w} {w₁} {w₂} {i} l F e = record {
  kept = within-trans (within_wider closure_part (omega arith) (omega arith) F.frame) (rw e (within-set closure_part w₁ (NEXT.at + i) 0 (omega arith) (omega arith)));
  labels = λ x. ap (λ (f : ℕ → ℕ). f x) (ap label_of e ∙ seen-out LABEL w₁ (NEXT.at + i) 0 (inr (omega arith))) ∙ F.labels x;
}
