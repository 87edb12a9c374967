-- Following is the least of the relations that document 01 describes, by induction on how it was made; what makes more records entail more, and a labelling that no record
-- contradicts complete, is that each of the two is such a relation. Assumes nothing.
use Prim.Native.Nat.{ℕ}
use mathlib.Core.Path.{◌≡◌, refl, sym, ◌∙◌, ap₂}
use mathlib.Core.List.{List}
use Rattle.meaning.specs.Following.{Rec, eq, app, Follows, same, flip, chain, given, congruent, Those}

-- R is reflexive, symmetric and transitive, contains a, b for each record a = b of S, and c, c' for each two applications whose arguments it relates.
pub record Equality (S : Rec → Type 0) (R : ℕ → ℕ → Type 0) : Type 0 where
  pub reflexive : {a : ℕ} → R a a
  pub symmetric : {a b : ℕ} → R a b → R b a
  pub transitive : {a b c : ℕ} → R a b → R b c → R a c
  pub equations : {a b : ℕ} → S (eq a b) → R a b
  pub applications : {a b c a' b' c' : ℕ} → S (app a b c) → S (app a' b' c') → R a a' → R b b' → R c c'

-- What follows stands in each such relation.
pub follows-least : {S : Rec → Type 0} {R : ℕ → ℕ → Type 0} → Equality S R → {s t : ℕ} → Follows S s t → R s t
follows-least h same = h.reflexive
follows-least h (flip p) = h.symmetric (follows-least h p)
follows-least h (chain p q) = h.transitive (follows-least h p) (follows-least h q)
follows-least h (given i) = h.equations i
follows-least h (congruent i j p q) = h.applications i j (follows-least h p) (follows-least h q)

-- Following is one of them, so it is the least.
pub follows-equality : {S : Rec → Type 0} → Equality S (Follows S)
follows-equality = record { reflexive = same; symmetric = flip; transitive = chain; equations = given; applications = congruent }

-- More records entail more.
pub more : {S S' : Rec → Type 0} → ((r : Rec) → S r → S' r) → {s t : ℕ} → Follows S s t → Follows S' s t
more {S' = S'} h =
    follows-least {R = Follows S'} (record { reflexive = same; symmetric = flip; transitive = chain; equations = λ i. given (h _ i); applications = λ i j. congruent (h _ i) (h _ j) })

pub more_of : {rs : List Rec} {P Q : ℕ → Type 0} → ((k : ℕ) → P k → Q k) → {s t : ℕ} → Follows (Those rs P) s t → Follows (Those rs Q) s t
more_of h = more (λ r i. (i.0, h i.0 i.1, i.2))

-- No record of S contradicts the labelling: an equation's tags are labelled alike, and so are the results of applications whose arguments are.
pub record Closed (S : Rec → Type 0) (f : ℕ → ℕ) : Type 0 where
  pub equal : {a b : ℕ} → S (eq a b) → f a ≡ f b
  pub apart : {a b c a' b' c' : ℕ} → S (app a b c) → S (app a' b' c') → f a ≡ f a' → f b ≡ f b' → f c ≡ f c'

pub complete : {S : Rec → Type 0} {f : ℕ → ℕ} → Closed S f → {s t : ℕ} → Follows S s t → f s ≡ f t
complete {f = f} h = follows-least {R = λ s t. f s ≡ f t} (record { reflexive = refl; symmetric = sym; transitive = ◌∙◌; equations = h.equal; applications = h.apart })

-- Closed, read off a table: the result's label is given by the arguments' labels.
pub closed-by : {S : Rec → Type 0} (f : ℕ → ℕ) (own : ℕ → ℕ → ℕ) → ((a b : ℕ) → S (eq a b) → f a ≡ f b) → ((a b c : ℕ) → S (app a b c) → f c ≡ own (f a) (f b)) → Closed S f
closed-by f own h g = record { equal = λ i. h _ _ i; apart = λ {a} {b} {c} {a'} {b'} {c'} i j p q. g _ _ _ i ∙ ap₂ own p q ∙ sym (g _ _ _ j) }
