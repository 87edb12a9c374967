-- The words are told apart: tests that antt computes say that the code's list is that of the words, and that no two words are one. Assumes nothing.
use Prim.Native.Nat.{ℕ, suc, ◌+◌, ◌≤◌, ◌<◌}
use native.Mathlib.Omega.{arith}
use native.Mathlib.Decide.{ℕ_discrete}
use mathlib.Core.Path.{◌≡◌, refl, sym, ◌∙◌, ap, subst}
use mathlib.Core.Bool.{Bool, true, false, ◌&&◌}
use mathlib.Core.List.{List, [], ◌∷◌, map}
use Prim.Native.String.{String}
use lib.Dec.{T, eqb, leb}
use lib.ListN.{length, get_or}
use denote.Bor.{Bor}
use Rattle.script_terms.proofs.Tests.{both, alike, alike-one, each, each_at, eqb_yes, eqb_no}
use Rattle.script_meaning.specs.Tokens.{bytes, same_bytes, listed, reserved, core, word, is_simple}
use Rattle.script_meaning.specs.Reading.{is_own}
use Rattle.script_meaning.proofs.Matching.{bytes_one}
use Rattle.script_words.specs.Words.{known, word_at, Stands, Spotted}

-- The code's list has word k at place k.
pub word-is : {l : List (Bor (List ℕ))} {k : ℕ} {w : List ℕ} {r : Bool} → Stands l k w r → k < 56 → T (each (λ i. same_bytes (get_or (map (λ x. x.now) l) i []) (word_at i)) 56) → r ≡ same_bytes (word_at k) w
word-is {l} {k} {w} S h t = S.is ∙ ap (λ y. same_bytes y w) (bytes_one _ _ (each_at (λ i. same_bytes (get_or (map (λ x. x.now) l) i []) (word_at i)) 56 t k h))

-- No two words are one.
abbrev apart : ℕ → Bool
apart j = each (λ k. alike (same_bytes (word_at j) (word_at k)) (eqb k j)) 54

all_apart : T (each apart 54)
unfolding word_at known core reserved
all_apart = tt

distinct : (j k : ℕ) → j < 54 → k < 54 → same_bytes (word_at j) (word_at k) ≡ eqb k j
distinct j k h i = alike-one _ _ (each_at (λ k. alike (same_bytes (word_at j) (word_at k)) (eqb k j)) 54 (each_at apart 54 all_apart j h) k i)

-- While a word is sought.
pub record Sought (w : List ℕ) (k : ℕ) : Type 0 where
  pub most : k ≤ 54
  pub before : (j : ℕ) → j < k → same_bytes (word_at j) w ≡ false

pub sought-none : (w : List ℕ) → Sought w 0
sought-none w = record { most = omega arith; before = λ j h. absurd (omega arith) }

pub sought-on : {w : List ℕ} {k : ℕ} → k < 54 → Sought w k → false ≡ same_bytes (word_at k) w → Sought w (k + 1)
sought-on {w} {k} h S e = record { most = omega arith; before = λ j i. before j i (ℕ_discrete j k) }
  where
    before : (j : ℕ) → j < k + 1 → Dec (j ≡ k) → same_bytes (word_at j) w ≡ false
    before j i (yes z) = rw z (sym e)
    before j i (no d) = S.before j (omega arith)

pub sought-it : {w : List ℕ} {k : ℕ} → k < 54 → true ≡ same_bytes (word_at k) w → Spotted w k
sought-it {w} {k} h e =
    let z : word_at k ≡ w = bytes_one (word_at k) w (subst (λ b. T b) e tt) in
    record { most = omega arith; only = λ j i. subst (λ y. same_bytes (word_at j) y ≡ eqb k j) z (distinct j k i h) }

pub sought-over : {w : List ℕ} {k : ℕ} → 54 ≤ k → Sought w k → Spotted w k
sought-over {w} {k} h S = record { most = S.most; only = λ j i. S.before j (omega arith) ∙ sym (eqb_no (let d : k ≡ j → ⊥ = λ z. omega arith in d)) }

-- A word that is found is the word.
pub spotted-is : {w : List ℕ} {k : ℕ} → k < 54 → Spotted w k → w ≡ word_at k
spotted-is {w} {k} h S = sym (bytes_one (word_at k) w (subst (λ b. T b) (sym (S.only k h ∙ eqb_yes {m = k} {n = k} refl)) tt))

-- What a word of the list is.
pub record Told (k : ℕ) : Type 0 where
  pub own : is_own (word (word_at k)) ≡ false
  pub simple : is_simple (word (word_at k)) ≡ leb 6 (7 + k) && leb (7 + k) 16
  pub cores : listed core (word_at k) ≡ leb 7 (7 + k) && leb (7 + k) 16

abbrev tells : ℕ → Bool
tells k = alike (is_own (word (word_at k))) false && (alike (is_simple (word (word_at k))) (leb 6 (7 + k) && leb (7 + k) 16) && alike (listed core (word_at k)) (leb 7 (7 + k) && leb (7 + k) 16))

all_tell : T (each tells 54)
unfolding word_at known core reserved
all_tell = tt

pub told_of : (k : ℕ) → k < 54 → Told k
told_of k h =
    let p = both (alike (is_own (word (word_at k))) false) _ (each_at tells 54 all_tell k h) in
    let q = both (alike (is_simple (word (word_at k))) (leb 6 (7 + k) && leb (7 + k) 16)) _ p.1 in
    record { own = alike-one _ _ p.0; simple = alike-one _ _ q.0; cores = alike-one _ _ q.1 }

-- A word that is none of the list is neither reserved nor one of Core's.
none-listed : (l : List String) (w : List ℕ) → ((j : ℕ) → j < length l → same_bytes (bytes (get_or l j "")) w ≡ false) → listed l w ≡ false
none-listed [] w h = refl
none-listed (x ∷ l) w h = let e : same_bytes (bytes x) w ≡ false = h 0 (omega arith) in rw e (none-listed l w (λ j i. h (suc j) (omega arith)))

abbrev core-word : ℕ → Bool
core-word j = same_bytes (word_at j) (bytes (get_or core j ""))

all-core : T (each core-word 10)
unfolding word_at known core reserved
all-core = tt

abbrev reserved-word : ℕ → Bool
reserved-word j = same_bytes (word_at (10 + j)) (bytes (get_or reserved j ""))

all-reserved : T (each reserved-word 43)
unfolding word_at known core reserved
all-reserved = tt

core-ten : length core ≡ 10
unfolding core
core-ten = refl

reserved-many : length reserved ≡ 43
unfolding reserved
reserved-many = refl

pub none-core : {w : List ℕ} {k : ℕ} → k ≡ 54 → Spotted w k → listed core w ≡ false
none-core {w} {k} e S =
    none-listed core w
    (λ j h.
    let i : j < 10 = omega (arith, core-ten) in
    subst (λ y. same_bytes y w ≡ false) (bytes_one (word_at j) (bytes (get_or core j "")) (each_at core-word 10 all-core j i)) (S.only j (omega arith) ∙ eqb_no (let d : k ≡ j → ⊥ = λ z. omega arith in d)))

pub none-reserved : {w : List ℕ} {k : ℕ} → k ≡ 54 → Spotted w k → listed reserved w ≡ false
none-reserved {w} {k} e S =
    none-listed reserved w
    (λ j h.
    let i : j < 43 = omega (arith, reserved-many) in
    subst (λ y. same_bytes y w ≡ false) (bytes_one (word_at (10 + j)) (bytes (get_or reserved j "")) (each_at reserved-word 43 all-reserved j i)) (S.only (10 + j) (omega arith) ∙ eqb_no (let d : k ≡ 10 + j → ⊥ = λ z. omega arith in d)))
