-- Search, way back and order together give the harness reason; and the newest join between two tags tells whether they are equal at the question. Assumes nothing.
use Prim.Native.Nat.{ℕ, zero, suc, ◌≤◌, ◌<◌}
use native.Mathlib.Omega.{arith}
use mathlib.Core.Path.{◌≡◌, refl, ◌∙◌}
use mathlib.Core.Logic.{inl}
use mathlib.Core.List.Memᴰ
use mathlib.Core.List.{List, [], ◌∷◌}
use lib.ListN.{length, get_or}
use Rattle.meaning.specs.Following.{Rec, eq, At, same}
use Rattle.meaning.specs.Limits.{most_tags}
use Rattle.meaning.proofs.Close.{more_of}
use Rattle.meaning.proofs.Reference.{Small}
use Rattle.table.specs.Map.{left_of, right_of, when_of, list_of, list_in, rec_at, records_in}
use Rattle.table.specs.Places.{scratch}
use Rattle.table.proofs.Frame.{length-gather, get_or-gather, gather-in, within-refl, within-trans, within_wider}
use Rattle.moment.specs.Meeting.{Met}
use Rattle.moment.proofs.Kept.{kept-past}
use Rattle.moment.proofs.Moments.{met-first, met-join}
use Rattle.reason_order.specs.Rising.{Numbered, Sorted}
use Rattle.reason.specs.Explaining.{Question}
use Rattle.std.proofs.Common.{Some, None}
use Rattle.reason.proofs.Whole.{small-records, answer-never, answer-later}
use Rattle.harness_meaning.specs.Harness.{Harness}
use Rattle.harness_meaning.specs.Search.{Same, climb}
use Rattle.harness_meaning.specs.Search as search
use Rattle.harness_meaning.proofs.Unique.{harness-of}
use Rattle.harness_meaning.proofs.Ways.{way_in}
use Rattle.harness_meaning.proofs.Levels.{climb-way}
use Rattle.harness_meaning.proofs.Found.{near-way, found-harness}
use Rattle.harness_table.specs.Levels.{lev_in, last_in}
use Rattle.harness_find.specs.Table.{Sought, Searched, Traceable, Traced}
use Rattle.harness_reason.specs.Explaining.{Plain, Equal, Shortest, Explained}
use Rattle.harness_find.proofs.Scanning.{same-lefts, same-rights}

-- Record number k, as the mathematics wants it.
plain_at : {len : ℕ} (w : List ℕ) (R : ℕ) → R ≤ len → Plain len w → (k : ℕ) → search.Within R k → At (records_in len w) k (eq (left_of w k) (right_of w k))
plain_at {len} w R h p zero i = absurd (omega (arith, i.0))
plain_at {len} w R h p (suc k) i = record {
  place = k;
  number = refl;
  stands = rw (length-gather (λ j. rec_at w (suc j)) len) (omega (arith, i.1));
  is = let l : k < len = omega (arith, i.1) in get_or-gather (λ j. rec_at w (suc j)) len k (eq 0 0) l ∙ p k l;
}

module _ {N len before s t : ℕ} {w : List ℕ} (E : Equal N len before s t w) where
  below : (k : ℕ) → search.Within before k → (left_of w k < N) × (right_of w k < N)
  below k i = let a = plain_at w before E.stands E.plain k i in let z : Small N (eq (left_of w k) (right_of w k)) = rw a.is at (small-records E.loaded a.place a.stands) in z

  pub equal-sought : Sought w before s t
  equal-sought =
      let r = near-way (records_in len w) before (left_of w) (right_of w) (plain_at w before E.stands E.plain) s t N below E.s-tag E.follows in
      record {
        long = E.loaded.long;
        few = omega (arith, E.stands, E.loaded.most);
        from = omega (arith, E.s-tag, E.loaded.few);
        to = omega (arith, E.t-tag, E.loaded.few);
        tags = λ j i. let b = below j i in (omega (arith, b.0, E.loaded.few), omega (arith, b.1, E.loaded.few));
        steps = r.0;
        list = r.1;
        near = omega (arith, r.2, E.loaded.few);
        way = r.3;
      }

  module _ {w₁ w₂ w₃ : List ℕ} {n c : ℕ} (S : Searched w w₁ before s t n) (T : Traced w₁ w₂ t n) (O : Sorted w₂ w₃ n c) where
    pub shortest-harness : Harness N (records_in len w) before s t (list_in c w₃)
    shortest-harness = found-harness (records_in len w) before (left_of w₁) (right_of w₁) plain s t S.found.done.levels (omega (arith, S.found.level, S.found.low)) (list_in c w₃) O.rising these N (small-records E.loaded)
      where
        plain : (k : ℕ) → search.Within before k → At (records_in len w) k (eq (left_of w₁ k) (right_of w₁ k))
        plain k i = rw (same-lefts (omega arith) S.kept, same-rights (omega arith) S.kept) (plain_at w before E.stands E.plain k i)

        these : Same (list_in c w₃) (climb (left_of w₁) (right_of w₁) (last_in w₁) (lev_in w₁ t) t)
        these j = rw (S.found.level, ← T.list) ((O.same j).1, (O.same j).0)

-- What comes between.
pub found-trace : {w w₁ : List ℕ} {R s t n : ℕ} → Searched w w₁ R s t n → Traceable w₁ t n
found-trace {R = R} {s = s} S = record { before = R; from = s; found = S.found }

pub traced-numbers : {w w₁ w₂ : List ℕ} {R s t n : ℕ} → Searched w w₁ R s t n → Traced w₁ w₂ t n → Numbered w₂ R n
traced-numbers {w} {w₁} {w₂} {R} {s} {t} {n} S T = record {
  long = omega (arith, T.kept.size, S.found.done.long);
  most = S.found.done.few;
  short = omega (arith, S.found.deep);
  named = λ i l. way_in (climb-way S.found.done.levels.tree n t S.found.low S.found.level) (list_of w₂ i) (rw T.list at (gather-in (list_of w₂) n i l));
}

pub shortest-whole : {before s t n c : ℕ} {w w₁ w₂ w₃ : List ℕ} → Searched w w₁ before s t n → Traced w₁ w₂ t n → Sorted w₂ w₃ n c → Shortest before s t w w₃ c
shortest-whole S T O = record {
  kept = within-trans S.kept (within-trans (within_wider scratch (omega arith) (omega arith) T.kept) (within_wider scratch (omega arith) (omega arith) O.kept));
  reason = λ N len E. shortest-harness E S T O;
}

-- A tag and itself.
harness-same : (N : ℕ) (rs : List Rec) (R t : ℕ) → ((i : ℕ) → i < length rs → Small N (get_or rs i (eq 0 0))) → Harness N rs R t t []
harness-same N rs R t small = harness-of (record { rising = tt; stand = λ k i. absurd (Memᴰ.not-nil i); entails = same }) (λ M g. omega arith) N small (λ M g q. inl (none M q))
  where
    none : (M : List ℕ) → length M ≡ 0 → M ≡ []
    none [] q = refl
    none (k ∷ M) q = absurd (omega arith)

module _ {N len n before s t : ℕ} {w : List ℕ} (Q : Question N len n before s t w) where
  pub answer-same : s ≡ t → Explained N len n before s t w w (Some 0)
  answer-same q = record { kept = within-refl w; past = Q.past; says = rw q (harness-same N (records_in len w) before t (small-records Q.past.loaded)) }

  pub answer-apart : Met w s t most_tags → Explained N len n before s t w w None
  answer-apart M = record { kept = within-refl w; past = Q.past; says = (answer-never Q M).says }

  pub answer-after : {b k : ℕ} → Met w s t b × (b < most_tags) → k ≡ when_of w b → before < k → Explained N len n before s t w w None
  answer-after M e h = record { kept = within-refl w; past = Q.past; says = (answer-later Q M e h).says }

  pub asks-shortest : {b k : ℕ} → Plain len w → Met w s t b × (b < most_tags) → k ≡ when_of w b → k ≤ before → Equal N len before s t w
  asks-shortest {b} {k} p M e h = record {
    loaded = Q.past.loaded;
    plain = p;
    stands = Q.stands;
    s-tag = Q.s-tag;
    t-tag = Q.t-tag;
    follows = more_of (λ m i. omega arith) (met-first Q.past M.0 (met-join Q.past M.0 M.1)).then;
  }

  pub answer-shortest : {c : ℕ} {w' : List ℕ} → Equal N len before s t w → Shortest before s t w w' c → Explained N len n before s t w w' (Some c)
  answer-shortest E S = record { kept = S.kept; past = kept-past S.kept Q.past; says = S.reason N len E }
