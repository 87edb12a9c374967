-- There is one harness reason at most, whatever the records; and a list with the fewest records, smallest of those, meets document 01's other points by itself: with one
-- record less it would entail by fewer, for a tag and itself the empty list is there, and what has no record to spare is short. Assumes nothing.
use Prim.Native.Nat.{ℕ, suc, ◌≤◌, ◌<◌}
use native.Mathlib.Omega.{arith}
use mathlib.Core.Path.{◌≡◌, refl, sym}
use mathlib.Core.Logic.{◌≢◌, ◌⊎◌, inl, inr}
use mathlib.Core.List.Memᴰ
use mathlib.Core.List.{List, [], ◌∷◌, Memᴰ}
use lib.ListN.{length, get_or}
use Rattle.meaning.specs.Following.{Rec, eq, Follows, same, Without, UpTo}
use Rattle.meaning.specs.Reasons.{Reason}
use Rattle.meaning.proofs.Close.{more_of}
use Rattle.meaning.proofs.Rising.{rising-short, take_out, numbers, numbers-rise, numbers-in, above-all}
use Rattle.meaning.proofs.Reference.{Small}
use Rattle.meaning.proofs.Short.{unspared-tight}
use Rattle.meaning.proofs.Decide.{besides, without-test}
use Rattle.harness_meaning.specs.Harness.{Smaller, Shows, Harness}
use Rattle.harness_meaning.proofs.Order.{smaller-asym}

-- A harness reason shows that the two are equal, and so does a reason of document 01.
pub harness-shows : {N : ℕ} {rs : List Rec} {R s t : ℕ} {L : List ℕ} → Harness N rs R s t L → Shows rs R s t L
harness-shows h = record { rising = h.rising; stand = h.stand; entails = h.entails }

pub reason-shows : {N : ℕ} {rs : List Rec} {R s t : ℕ} {L : List ℕ} → Reason N rs R s t L → Shows rs R s t L
reason-shows h = record { rising = h.rising; stand = h.stand; entails = h.entails }

pub shows-follows : {rs : List Rec} {R s t : ℕ} {L : List ℕ} → Shows rs R s t L → Follows (UpTo rs R) s t
shows-follows h = more_of h.stand h.entails

pub harness-follows : {N : ℕ} {rs : List Rec} {R s t : ℕ} {L : List ℕ} → Harness N rs R s t L → Follows (UpTo rs R) s t
harness-follows h = shows-follows (harness-shows h)

-- The list is unique.
pub harness-one : {N : ℕ} {rs : List Rec} {R s t : ℕ} {L M : List ℕ} → Harness N rs R s t L → Harness N rs R s t M → M ≡ L
harness-one {N} {rs} {R} {s} {t} {L} {M} h g = go (h.smallest M (harness-shows g) e) (g.smallest L (harness-shows h) (sym e))
  where
    e : length M ≡ length L
    e = omega (arith, h.fewest M (harness-shows g), g.fewest L (harness-shows h))

    go : (M ≡ L) ⊎ Smaller L M → (L ≡ M) ⊎ Smaller M L → M ≡ L
    go (inl q) r = q
    go (inr l) (inl q) = sym q
    go (inr l) (inr l') = absurd (smaller-asym l l')

-- It is no longer than any reason of document 01 for the same question.
pub harness-least : {N : ℕ} {rs : List Rec} {R s t : ℕ} {L M : List ℕ} → Harness N rs R s t L → Reason N rs R s t M → length L ≤ length M
harness-least {M = M} h g = h.fewest M (reason-shows g)

module _ {rs : List Rec} {R s t : ℕ} {L : List ℕ} (h : Shows rs R s t L) (fewest : (M : List ℕ) → Shows rs R s t M → length L ≤ length M) where
  -- Fewest implies that none can be spared ..
  pub fewest-unspared : (m : ℕ) → Memᴰ m L → Follows (Without rs L m) s t → ⊥
  fewest-unspared m i f = omega (arith, fewest (numbers (besides L m) R) shows, out.1, rising-short 0 (numbers (besides L m) R) out.0 (numbers-rise (besides L m) R).0 fits)
    where
      out : (Y : List ℕ) × (length L ≡ suc (length Y)) × ((n : ℕ) → n ≢ m → Memᴰ n L → Memᴰ n Y)
      out = take_out m L i

      fits : (n : ℕ) → Memᴰ n (numbers (besides L m) R) → Memᴰ n out.0
      fits n j = let w = (without-test L m n).1 ((numbers-in (besides L m) R n).0 j).2 in out.2 n w.1 w.0

      shows : Shows rs R s t (numbers (besides L m) R)
      shows = record {
        rising = (numbers-rise (besides L m) R).0;
        stand = λ k j. ((numbers-in (besides L m) R k).0 j).1;
        entails = more_of (λ k w. (numbers-in (besides L m) R k).1 (above-all 0 L h.rising k w.0, h.stand k w.0, (without-test L m k).0 w)) f;
      }

  -- .. and that a tag and itself need none.
  pub fewest-empty : s ≡ t → L ≡ []
  fewest-empty q = go L (fewest [] (record { rising = tt; stand = λ k i. absurd (Memᴰ.not-nil i); entails = rw q same }))
    where
      go : (K : List ℕ) → length K ≤ 0 → K ≡ []
      go [] l = refl
      go (k ∷ K) l = absurd (omega arith)

  -- So these three make a harness reason.
  pub harness-of : (N : ℕ) → ((i : ℕ) → i < length rs → Small N (get_or rs i (eq 0 0))) → ((M : List ℕ) → Shows rs R s t M → length M ≡ length L → (M ≡ L) ⊎ Smaller L M) → Harness N rs R s t L
  harness-of N small smallest = record {
    rising = h.rising;
    stand = h.stand;
    entails = h.entails;
    empty = fewest-empty;
    unspared = fewest-unspared;
    short = λ C c. unspared-tight N rs small s t L h.rising h.entails fewest-unspared (λ k. k ≤ R) C h.stand c;
    fewest = fewest;
    smallest = smallest;
  }
