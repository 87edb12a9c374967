-- DEFINITIONS, to be read against document 01, "Tags, records, following", and document 02, No. 3: records and their numbers, what
-- follows from a set of records, the class of a tag and its leader. Later files only name sets of records and use these.
-- A tag is its number. Assumes nothing.
use Rattle.std.specs.Prelude.{ℕ, suc, ◌≤◌, ◌<◌, ◌≡◌, ◌≢◌, length, get_or}
use mathlib.Core.List.{List, Memᴰ}

-- "A record is `a = b` or `f(a, b) = c`, where f is the one application of curried terms and a, b, c are tags. They may
-- coincide." The letters of both constructors stand in that order.
pub data Rec : Type 0 where
  eq : ℕ → ℕ → Rec
  app : ℕ → ℕ → ℕ → Rec

-- "Records are numbered 1, 2, 3 in the order they stand": record number k of the job's records rs is r. The first of them
-- has place 0 and number 1. (The `eq 0 0` answers for places past the end, which `stands` shuts out.)
pub record At (rs : List Rec) (k : ℕ) (r : Rec) : Type 0 where
  pub place : ℕ
  pub number : k ≡ suc place
  pub stands : place < length rs
  pub is : get_or rs place (eq 0 0) ≡ r

-- "Equality *follows* from a set of records as the least relation on tags that is reflexive, symmetric and transitive,
-- contains a, b for each record a = b, and contains c, c' whenever f(a, b) = c and f(a', b') = c' are in the set, a follows
-- equal to a', and b to b'." One constructor for each clause, in that order; that nothing else makes one is "least".
pub data Follows (S : Rec → Type 0) : ℕ → ℕ → Type 0 where
  same : {a : ℕ} → Follows S a a
  flip : {a b : ℕ} → Follows S a b → Follows S b a
  chain : {a b c : ℕ} → Follows S a b → Follows S b c → Follows S a c
  given : {a b : ℕ} → S (eq a b) → Follows S a b
  congruent : {a b c a' b' c' : ℕ} → S (app a b c) → S (app a' b' c') → Follows S a a' → Follows S b b' → Follows S c c'

-- A set of records is picked by number: the records of rs whose number is in P.
abbrev pub Those : List Rec → (ℕ → Type 0) → Rec → Type 0
Those rs P r = (k : ℕ) × P k × At rs k r

-- "Records 1 to k": with k the number of records before a question, "the records before that question".
abbrev pub UpTo : List Rec → ℕ → Rec → Type 0
UpTo rs k = Those rs (λ n. n ≤ k)

-- "The *class* of a tag at a question is all tags equal to it by the records before that question": x is in the class of s.
abbrev pub Class : (Rec → Type 0) → ℕ → ℕ → Type 0
Class S s x = Follows S s x

-- "The smallest number in the class": it is l, of the class of s. Every class has one, by which the classes are counted (Totals).
pub record Least (S : Rec → Type 0) (s l : ℕ) : Type 0 where
  pub member : Class S s l
  pub least : (x : ℕ) → Class S s x → l ≤ x

-- Document 02, No. 3: "N and U, where tags from U up are units. The leader is the smallest unit in the class, or the smallest tag if it
-- has no unit. A header of length 2 means U = N": l is the leader of s.
pub data Leader (U : ℕ) (S : Rec → Type 0) (s l : ℕ) : Type 0 where
  unit : U ≤ l → Class S s l → ((x : ℕ) → U ≤ x → Class S s x → l ≤ x) → Leader U S s l
  no-unit : ((x : ℕ) → U ≤ x → Class S s x → ⊥) → Least S s l → Leader U S s l

-- Two more sets, for "Reasons": "those records alone", of a list of record numbers L, ..
abbrev pub Only : List Rec → List ℕ → Rec → Type 0
Only rs L = Those rs (λ n. Memᴰ n L)

-- .. and "the rest", "without any one of its records", here the one of number m.
abbrev pub Without : List Rec → List ℕ → ℕ → Rec → Type 0
Without rs L m = Those rs (λ n. Memᴰ n L × (n ≢ m))
