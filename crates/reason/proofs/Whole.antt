-- Marks, list, trimming and order together give a reason: the marked joins up to the newest one link the two tags, their records are at
-- most that join's, and no record that is kept can be spared. Assumes nothing.
use Prim.Native.Nat.{ℕ, zero, suc, ◌≤◌, ◌<◌}
use native.Mathlib.Omega.{arith}
use native.Mathlib.Decide.{ℕ_discrete}
use mathlib.Core.Path.{◌≡◌, refl, ap, ◌∙◌}
use mathlib.Core.Logic.{◌≢◌, ◌↔◌, inl, inr}
use mathlib.Core.Bool.{Bool, true, false}
use mathlib.Core.List.{List, [], ◌∷◌, Memᴰ}
use lib.ListN.{length, get_or}
use Rattle.meaning.specs.Following.{Rec, eq}
use Rattle.meaning.specs.Reasons.{Reason}
use Rattle.meaning.specs.Joins.{Join, numbers_of, keep, used, all}
use Rattle.meaning.specs.Trim.{Trimmed}
use Rattle.meaning.specs.Walk.{Walked}
use Rattle.meaning.specs.Needed.{tags}
use Rattle.meaning.proofs.Log.{linked-follows}
use Rattle.meaning.proofs.Needed.{used-up}
use Rattle.meaning.proofs.Reference.{Small}
use Rattle.meaning.proofs.Exact.{reason-of, reason-same}
use Rattle.meaning.proofs.Decide.{count_classes}
use Rattle.meaning.proofs.Leaders.{classes-more}
use Rattle.meaning.specs.Limits.{most_tags}
use Rattle.table.specs.Map.{when_of, first_of, second_of, list_of, list_in, rec_at, records_in, join_at, Loaded, Within}
use Rattle.table.proofs.Frame.{length-gather, get_or-gather, gather-in, within-refl, within-trans, within_wider}
use Rattle.table.specs.Past.{Past, age_by}
use Rattle.table.specs.Places.{LIST, Large, Part, SINCE, scratch}
use Rattle.moment.specs.Meeting.{Met}
use Rattle.moment.specs.Holding.{Holds, marked}
use Rattle.reason_follow.specs.Tracing.{Together, Traced, Unmarked, Unfollowed}
use Rattle.moment.proofs.Kept.{kept-records, kept-joins, kept-past, kept-loaded, kept-whens}
use Rattle.reason_follow.specs.Ways.{follow_part}
use Rattle.moment.proofs.Known.{join_one, join-two}
use Rattle.moment.proofs.Moments.{met-first, met-join, met-later, met-never, made_by}
use Rattle.reason_follow.proofs.Crossing.{kept-leader, unmarked-supported}
use Rattle.reason_list.specs.Listing.{waiting_in, Gathered}
use Rattle.reason_trim.specs.Trimming.{Pruned, Followed}
use Rattle.reason_order.specs.Rising.{Numbered, Sorted}
use Rattle.reason.specs.Explaining.{Question, Explained, Joining, Reasoned}
use Rattle.std.proofs.Common.{Some, None}

-- Fewer marks and fewer joins use fewer records.
keep-less : (b : Bool) (L : List ℕ) (k : ℕ) → Memᴰ k (keep b L) → Memᴰ k L
keep-less true L k m = m
keep-less false L k m = absurd (mathlib.Core.List.Memᴰ.not-nil m)

used_all : (e : ℕ → Join) (m : ℕ → Bool) (n k : ℕ) → Memᴰ k (used e m n) → Memᴰ k (used e all n)
used_all e m zero k i = i
used_all e m (suc n) k i = elim (mathlib.Core.List.Memᴰ.append_cases (keep (m n) (numbers_of (e n).why)) i) [
  | inl h ↦ mathlib.Core.List.Memᴰ.append_left (used e all n) (keep-less (m n) (numbers_of (e n).why) k h)
  | inr h ↦ mathlib.Core.List.Memᴰ.append_right (numbers_of (e n).why) (used_all e m n k h)
]

module _ {N len n : ℕ} {w : List ℕ} (P : Past N len w n) where
  -- A record of a join is a record.
  number-some : (a : ℕ) → a < n → (k : ℕ) → Memᴰ k (numbers_of (join_at w a).why) → 1 ≤ k
  number-some a l k i = go (ℕ_discrete (second_of w a) 0)
    where
      two : (p q : ℕ) → 1 ≤ p → 1 ≤ q → Memᴰ k (p ∷ q ∷ []) → 1 ≤ k
      two p q h h' j = elim (mathlib.Core.List.Memᴰ.cases_cons j) [ inl e ↦ rw e h | inr m ↦ let e : k ≡ q = mathlib.Core.List.Memᴰ.eq_of_singleton m in rw e h' ]

      go : Dec (second_of w a ≡ 0) → 1 ≤ k
      go (yes z) =
          let o = join_one P a l z in
          let j : Memᴰ k (first_of w a ∷ []) = rw (ap numbers_of o.why) at i in
          let e : k ≡ first_of w a = mathlib.Core.List.Memᴰ.eq_of_singleton j in
          omega (arith, o.first.some)
      go (no z) =
          let o = join-two P a l z in
          let j : Memᴰ k (first_of w a ∷ second_of w a ∷ []) = rw (ap numbers_of o.why) at i in
          two (first_of w a) (second_of w a) o.first.some o.second.some j

  used-some : (a : ℕ) → a ≤ n → (k : ℕ) → Memᴰ k (used (join_at w) all a) → 1 ≤ k
  used-some zero l k i = absurd (mathlib.Core.List.Memᴰ.not-nil i)
  used-some (suc a) l k i = elim (mathlib.Core.List.Memᴰ.append_cases (numbers_of (join_at w a).why) i) [
    | inl h ↦ number-some a (omega arith) k h
    | inr h ↦ used-some a (omega arith) k h
  ]

  -- The marked joins up to that of age b use records up to that at which it was made.
  used-within : (m : ℕ → Bool) (b : ℕ) → b < n → (k : ℕ) → Memᴰ k (used (join_at w) m (suc b)) → (1 ≤ k) × (k ≤ when_of w b)
  used-within m b l k i =
      let j = used_all (join_at w) m (suc b) k i in
      (used-some (suc b) l k j, (P.moments (when_of w b) (P.made b l).1).within k (used-up (join_at w) all (suc b) (age_by w n (when_of w b)) k (made_by P b l) j))

-- The records of the table, as the mathematics wants them.
pub small-records : {N len : ℕ} {w : List ℕ} → Loaded N len w → (i : ℕ) → i < length (records_in len w) → Small N (get_or (records_in len w) i (eq 0 0))
small-records {N} {len} {w} h i l =
    let k : i < len = rw (length-gather (λ j. rec_at w (suc j)) len) at l in
    rw (get_or-gather (λ j. rec_at w (suc j)) len i (eq 0 0) k) (h.small i k)

wide : {p : Part} {w w' : List ℕ} → LIST.at ≤ p.from → p.upto ≤ SINCE.at → Within p w w' → Within scratch w w'
wide l m f = within_wider scratch l m f

module _ {N len n s t b : ℕ} {w : List ℕ} (J : Joining N len n s t b w) where
  few : n ≤ 999
  few = omega (arith, J.past.low, J.past.loaded.few)

  module _ {w₁ : List ℕ} (U : Unmarked w w₁ n) where
    frame₁ : Within scratch w w₁
    frame₁ = wide (omega arith) (omega arith) U.kept

    follow₁ : Within follow_part w w₁
    follow₁ = within_wider follow_part (omega arith) (omega arith) U.kept

    together : Together w₁ s t (suc b)
    together = record {
      holds = record { tags = N; len = len; joins = n; past = kept-past frame₁ J.past; reach = J.join };
      from = omega (arith, J.s-tag, J.past.loaded.few);
      to = omega (arith, J.t-tag, J.past.loaded.few);
      equal = rw (kept-leader follow₁ (suc b) s, kept-leader follow₁ (suc b) t) (J.met.joined (omega (arith, few, J.join)));
    }

    pub asks-trace : Unfollowed w₁ s t (suc b)
    asks-trace = record { together = together; none = λ a l h. rw (U.none a (omega (arith, J.join))) at h }

    module _ {w₂ : List ℕ} (X : Traced w₁ w₂ (suc b) s t (tags s t)) where
      frame₂ : Within scratch w w₂
      frame₂ = within-trans frame₁ (wide (omega arith) (omega arith) X.kept)

      pub asks-list : Holds w₂ (suc b)
      asks-list = record { tags = N; len = len; joins = n; past = kept-past frame₂ J.past; reach = J.join }

      walked : Walked (records_in len w) (join_at w) n (marked w₁) (marked w₂) (suc b) s t
      walked = rw (kept-records frame₁ len, kept-joins frame₁) at (X.walked N len n (kept-past frame₁ J.past) J.join (unmarked-supported (records_in len w₁) (join_at w₁) U))

      module _ {w₃ : List ℕ} {m : ℕ} (G : Gathered w₂ w₃ (suc b) m) where
        frame₃ : Within scratch w w₃
        frame₃ = within-trans frame₂ (wide (omega arith) (omega arith) G.kept)

        same : (k : ℕ) → Memᴰ k (used (join_at w) (marked w₂) (suc b)) ↔ Memᴰ k (waiting_in m w₃)
        same k = rw (← ap (λ (e : ℕ → Join). used e (marked w₂) (suc b)) (kept-joins frame₂)) (G.same k)

        named : (k : ℕ) → Memᴰ k (waiting_in m w₃) → (1 ≤ k) × (k ≤ when_of w b)
        named k i = used-within J.past (marked w₂) b J.join k ((same k).1 i)

        pub followed : Followed N len s t w₃ m
        followed = record {
          loaded = kept-loaded frame₃ J.past.loaded;
          s-tag = J.s-tag;
          t-tag = J.t-tag;
          short = omega (arith, G.short, few, J.join);
          named = λ k i. let h = named k i in (h.0, omega (arith, h.1, (J.past.made b J.join).1));
          entails = rw (kept-records frame₃ len) (linked-follows (records_in len w) (join_at w) (marked w₂) (λ k. Memᴰ k (waiting_in m w₃)) (suc b)
              (λ a l. walked.supported a (omega (arith, J.join))) (λ k. (same k).0) s t walked.linked);
        }

        module _ {w₄ : List ℕ} {kept : ℕ} (Q : Pruned N len s t w₃ w₄ m kept) where
          frame₄ : Within scratch w w₄
          frame₄ = within-trans frame₃ (wide (omega arith) (omega arith) Q.kept_in)

          -- The join itself was made at the last record that is listed.
          pub asks-made : Large w₄ × (b < most_tags)
          asks-made = (omega (arith, J.past.loaded.long, frame₄.size), omega (arith, few, J.join))

          pub asks-rising : {last : ℕ} → last ≡ when_of w₄ b → Numbered w₄ last kept
          asks-rising {last} e =
              let q : last ≡ when_of w b = e ∙ ap (λ (f : ℕ → ℕ). f b) (kept-whens frame₄) in
              record {
                long = asks-made.0;
                most = omega (arith, (J.past.made b J.join).1, J.past.loaded.most);
                short = omega (arith, Q.few, followed.short);
                named = λ i l. let h = named (list_of w₄ i) (Q.fewer (list_of w₄ i) (gather-in (list_of w₄) kept i l)) in (h.0, omega (arith, h.1));
              }

          trimmed : Trimmed (records_in len w) s t (λ k. Memᴰ k (list_in kept w₄)) (suc (when_of w b))
          trimmed = record {
            entails = rw (kept-records frame₄ len) at Q.entails;
            unspared = λ k l i f. Q.unspared k i (rw (kept-records frame₄ len) f);
          }

          pub reasoned : {w₅ : List ℕ} {c : ℕ} → Sorted w₄ w₅ kept c → Reasoned N len s t b w w₅ c
          reasoned {w₅} {c} S = record {
            kept = within-trans frame₄ (wide (omega arith) (omega arith) S.kept);
            reason = reason-of N (records_in len w) (small-records J.past.loaded) (when_of w b) s t (when_of w b) (λ k. Memᴰ k (list_in kept w₄)) (list_in c w₅) J.two (omega arith)
                (met-first J.past J.met J.join) trimmed (λ k i. (named k (Q.fewer k i)).1) S.rising (λ k. ((S.same k).1, (S.same k).0));
          }

-- A reason serves a later question too.
reason-later : {N k R s t : ℕ} {rs : List Rec} {L : List ℕ} → k ≤ R → Reason N rs k s t L → Reason N rs R s t L
reason-later {N} {k} {rs = rs} l r = record {
  rising = r.rising;
  stand = λ n i. omega (arith, r.stand n i);
  entails = r.entails;
  empty = r.empty;
  last = r.last;
  unspared = r.unspared;
  short = λ C c. let d = count_classes N rs k in omega (arith, r.short d.0 d.1, classes-more (λ x i. let b : i.0 ≤ k = i.1 in (i.0, omega arith, i.2)) d.1 c);
}

-- The four answers.
module _ {N len n before s t : ℕ} {w : List ℕ} (Q : Question N len n before s t w) where
  pub answer-same : s ≡ t → Explained N len n before s t w w (Some 0)
  answer-same q = record { kept = within-refl w; past = Q.past; says = rw q (reason-same N (records_in len w) before t) }

  pub answer-never : Met w s t most_tags → Explained N len n before s t w w None
  answer-never M = record { kept = within-refl w; past = Q.past; says = met-never Q.past M before Q.stands refl }

  pub answer-later : {b k : ℕ} → Met w s t b × (b < most_tags) → k ≡ when_of w b → before < k → Explained N len n before s t w w None
  answer-later M e h = record { kept = within-refl w; past = Q.past; says = met-later Q.past M.0 before Q.stands (met-join Q.past M.0 M.1) (omega arith) }

  pub asks-reason : {b : ℕ} → s ≢ t → Met w s t b × (b < most_tags) → Joining N len n s t b w
  asks-reason d M = record { past = Q.past; s-tag = Q.s-tag; t-tag = Q.t-tag; two = d; join = met-join Q.past M.0 M.1; met = M.0 }

  pub answer-because : {b k c : ℕ} {w' : List ℕ} → k ≡ when_of w b → k ≤ before → Reasoned N len s t b w w' c → Explained N len n before s t w w' (Some c)
  answer-because e l r = record { kept = r.kept; past = kept-past r.kept Q.past; says = reason-later (omega arith) r.reason }
