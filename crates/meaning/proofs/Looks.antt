-- The list of leaders passes the looks where s and t are not equal, since two tags of the job have one leader exactly if they are equal; and no numbers pass them where they
-- are, since what the looks say of the numbers makes them a labelling that no record contradicts. Assumes nothing.
use Prim.Native.Nat.{ℕ, zero, suc, ◌+◌, ◌<◌}
use native.Mathlib.Omega.{arith}
use mathlib.Core.Path.{◌≡◌, refl, sym, ◌∙◌, ap}
use mathlib.Core.Logic.{◌↔◌}
use mathlib.Core.List.{List, [], ◌∷◌}
use lib.ListN.{length, get_or}
use lib.Seq.{ext_get_or}
use Rattle.meaning.specs.Following.{Rec, eq, app, Follows, congruent, given, UpTo}
use Rattle.meaning.specs.Looks.{under, Led, Looks}
use Rattle.meaning.proofs.Close.{complete}
use Rattle.meaning.proofs.Reference.{Small}
use Rattle.meaning.proofs.Laws.{small-those}
use Rattle.meaning.proofs.Units.{leader-one, leader-same, leader-there}

-- A list that passes the looks shows that the equality does not follow.
pub looks-apart : {N : ℕ} {rs : List Rec} {R s t : ℕ} {L : List ℕ} → Looks N rs R s t L → Follows (UpTo rs R) s t → ⊥
looks-apart {L = L} h f = h.differ (complete {f = under L} (record { equal = h.equations; apart = h.applications }) f)

-- The list of leaders is one, ..
pub led-one : {N U : ℕ} {S : Rec → Type 0} {L L' : List ℕ} → Led N U S L → Led N U S L' → L ≡ L'
led-one {L = L} {L' = L'} d d' = ext_get_or 0 L L' (d.full ∙ sym d'.full) (λ i l. leader-one (d.each i (rw d.full at l)) (d'.each i (rw d.full at l)))

-- .. and there is one.
abbrev up_from : (ℕ → ℕ) → ℕ → ℕ → List ℕ
up_from f k zero = []
up_from f k (suc n) = f k ∷ up_from f (suc k) n

length_up : (f : ℕ → ℕ) (k n : ℕ) → length (up_from f k n) ≡ n
length_up f k zero = refl
length_up f k (suc n) = ap suc (length_up f (suc k) n)

at_up : (f : ℕ → ℕ) (k n i j : ℕ) → i < n → k + i ≡ j → get_or (up_from f k n) i 0 ≡ f j
at_up f k zero i j l e = absurd (omega arith)
at_up f k (suc n) zero j l e = ap f (omega arith)
at_up f k (suc n) (suc i) j l e = at_up f (suc k) n i j (omega arith) (omega arith)

pub led-there : (N U : ℕ) (rs : List Rec) (R : ℕ) → (L : List ℕ) × Led N U (UpTo rs R) L
led-there N U rs R =
    let f : ℕ → ℕ = λ x. (leader-there U rs R x).0 in
    (up_from f 0 N, record { full = length_up f 0 N; each = λ x l. rw (at_up f 0 N x x l (omega arith)) (leader-there U rs R x).1 })

module _ (N : ℕ) (rs : List Rec) (small : (i : ℕ) → i < length rs → Small N (get_or rs i (eq 0 0))) (R s t : ℕ) (s-tag : s < N) (t-tag : t < N) where
  -- Where the equality does not follow, the list of leaders passes.
  pub led-looks : {U : ℕ} {L : List ℕ} → Led N U (UpTo rs R) L → (Follows (UpTo rs R) s t → ⊥) → Looks N rs R s t L
  led-looks {U} {L} d n = record {
    full = d.full;
    equations = λ {a} {b} i. let k = small-those N small (eq a b) i in (leader-same (d.each a k.0) (d.each b k.1)).0 (given i);
    applications = λ {a} {b} {c} {a'} {b'} {c'} i j p q.
        let k = small-those N small (app a b c) i in
        let k' = small-those N small (app a' b' c') j in
        (leader-same (d.each c k.2) (d.each c' k'.2)).0 (congruent i j ((leader-same (d.each a k.0) (d.each a' k'.0)).1 p) ((leader-same (d.each b k.1) (d.each b' k'.1)).1 q));
    differ = λ e. n ((leader-same (d.each s s-tag) (d.each t t-tag)).1 e);
  }

  -- A list that passes exists exactly when the equality does not follow.
  pub looks-exactly : ((L : List ℕ) × Looks N rs R s t L) ↔ (Follows (UpTo rs R) s t → ⊥)
  looks-exactly = (λ h f. looks-apart h.1 f, λ n. let d = led-there N 0 rs R in (d.0, led-looks d.1 n))
