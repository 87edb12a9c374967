-- The fields of the table as bytes, one after the other. Assumes nothing.
use Prim.Native.Nat.{ℕ, zero, suc, ◌+◌, ◌-◌, ◌≤◌, ◌<◌}
use native.Mathlib.Omega.{arith}
use native.Mathlib.Decide.{ℕ_discrete}
use native.Mathlib.Numerals.{add-one}
use mathlib.Core.Path.{◌≡◌, refl, sym, ◌∙◌, subst}
use mathlib.Core.Logic.{◌≢◌}
use mathlib.Core.Bool.{cond}
use mathlib.Core.List.{List, [], ◌∷◌, ◌++◌}
use lib.Dec.{eqb}
use lib.ListN.{length, get_or, length-append}
use Rattle.report.specs.Report.{two as number, front, laid}
use Rattle.report.proofs.Laid.{laid_none, laid_then}
use Rattle.script_terms.proofs.Tests.{eqb_yes, eqb_no, ltb_yes, ltb_no}
use Rattle.script_meaning.proofs.Shift.{shift}
use Rattle.script_shelf.specs.declared.Counts.{Counts}
use Rattle.script_write.specs.Writing.{pair_of, triple_of, field_bytes, field_in, fields_in, FieldPut, FieldsAsk, FieldsPut}

pub shift-low : (S p : ℕ) → p < 1001 → p ≡ shift S p
shift-low S p h = rw (ltb_yes h)

pub shift-high : (S p : ℕ) → 1001 ≤ p → p - 1001 + S ≡ shift S p
shift-high S p h = rw (ltb_no h)

-- A field's front and its numbers, as they are laid.
pub pair-laid : (at kind a b : ℕ) (room x y z : List ℕ) → at + 9 ≤ length room → x ≡ laid at (front kind 4) room → y ≡ laid (at + 3) (number a) x → z ≡ laid (at + 5) (number b) y → z ≡ laid at (pair_of kind a b) room
unfolding front number pair_of
pair-laid at kind a b room x y z h e f g =
    let p : y ≡ laid at (front kind 4 ++ number a) room = f ∙ laid_then at (at + 3) (front kind 4) (number a) room x (omega arith) refl e in
    g ∙ laid_then at (at + 5) (front kind 4 ++ number a) (number b) room y (omega arith) (omega arith) p

pub triple-laid : (at a b c : ℕ) (room x y z v : List ℕ) → at + 9 ≤ length room → x ≡ laid at (front 2 6) room → y ≡ laid (at + 3) (number a) x → z ≡ laid (at + 5) (number b) y → v ≡ laid (at + 7) (number c) z
    → v ≡ laid at (triple_of a b c) room
unfolding front number triple_of
triple-laid at a b c room x y z v h e f g i =
    let p : y ≡ laid at (front 2 6 ++ number a) room = f ∙ laid_then at (at + 3) (front 2 6) (number a) room x (omega arith) refl e in
    let q : z ≡ laid at ((front 2 6 ++ number a) ++ number b) room = g ∙ laid_then at (at + 5) (front 2 6 ++ number a) (number b) room y (omega arith) (omega arith) p in
    i ∙ laid_then at (at + 7) ((front 2 6 ++ number a) ++ number b) (number c) room z (omega arith) (omega arith) q

-- One field, by its kind.
module _ (w : List ℕ) (S i kind a b c x y z : ℕ)
    (k : kind ≡ get_or w (8025 + i) 0) (d : a ≡ shift S x) (e : b ≡ shift S y) (f : c ≡ shift S z) (p : x ≡ get_or w (13526 + i) 0) (q : y ≡ get_or w (19027 + i) 0) (r : z ≡ get_or w (24528 + i) 0) where
  bytes-are : field_in w S i ≡ cond (eqb kind 1) (pair_of 1 a b) (cond (eqb kind 5) (pair_of 5 a b) (cond (eqb kind 6) (6 ∷ 0 ∷ 0 ∷ []) (triple_of a b c)))
  unfolding field_bytes
  bytes-are = rw (k, d, e, f, p, q, r)

  put_as : {room room' bs : List ℕ} {at to : ℕ} → field_in w S i ≡ bs → room' ≡ laid at bs room → to ≡ at + length bs → FieldPut w S i room room' at to
  put_as q r l = record { is = rw q r; behind = rw q l }

  pub put_one : {room room' : List ℕ} {at : ℕ} → kind ≡ 1 → room' ≡ laid at (pair_of 1 a b) room → FieldPut w S i room room' at (at + 7)
  unfolding pair_of
  put_one q r = put_as (bytes-are ∙ rw (eqb_yes q)) r refl

  pub put_five : {room room' : List ℕ} {at : ℕ} → kind ≢ 1 → kind ≡ 5 → room' ≡ laid at (pair_of 5 a b) room → FieldPut w S i room room' at (at + 7)
  unfolding pair_of
  put_five n q r = put_as (bytes-are ∙ rw (eqb_no n, eqb_yes q)) r refl

  pub put_six : {room room' : List ℕ} {at : ℕ} → kind ≢ 1 → kind ≢ 5 → kind ≡ 6 → room' ≡ laid at (front 6 0) room → FieldPut w S i room room' at (at + 3)
  unfolding front number
  put_six n m q r = put_as (bytes-are ∙ rw (eqb_no n, eqb_no m, eqb_yes q)) r refl

  pub put_two : {room room' : List ℕ} {at : ℕ} → kind ≢ 1 → kind ≢ 5 → kind ≢ 6 → room' ≡ laid at (triple_of a b c) room → FieldPut w S i room room' at (at + 9)
  unfolding triple_of
  put_two n m q r = put_as (bytes-are ∙ rw (eqb_no n, eqb_no m, eqb_no q)) r refl

-- While they are put one after the other.
fields-more : (w : List ℕ) (S i n : ℕ) → i ≤ n → length (fields_in w S i) ≤ length (fields_in w S n)
unfolding fields_in
fields-more w S i zero h = let e : i ≡ 0 = omega arith in rw e (omega arith)
fields-more w S i (suc n) h = go (ℕ_discrete i (suc n)) (fields-more w S i n)
  where
    go : Dec (i ≡ suc n) → (i ≤ n → length (fields_in w S i) ≤ length (fields_in w S n)) → length (fields_in w S i) ≤ length (fields_in w S n ++ field_in w S n)
    go (yes e) f = rw e (omega arith)
    go (no d) f = let l = f (omega arith) in omega (arith, length-append (fields_in w S n) (field_in w S n))

pub record Putting (w : List ℕ) (S n : ℕ) (room₀ room : List ℕ) (start i at : ℕ) : Type 0 where
  pub few : i ≤ n
  pub is : room ≡ laid start (fields_in w S i) room₀
  pub behind : at ≡ start + length (fields_in w S i)
  pub size : length room ≡ length room₀

pub putting-start : (w : List ℕ) (S n : ℕ) (room : List ℕ) (start : ℕ) → Putting w S n room room start 0 start
unfolding fields_in
putting-start w S n room start = record { few = omega arith; is = sym (laid_none start room); behind = omega arith; size = refl }

pub putting-count : {w : List ℕ} {S n m : ℕ} {room₀ room : List ℕ} {start i at : ℕ} → n ≡ m → Putting w S n room₀ room start i at → Putting w S m room₀ room start i at
putting-count e P = record { few = omega (arith, P.few); is = P.is; behind = P.behind; size = P.size }

module _ {w : List ℕ} {c : Counts} {room₀ room : List ℕ} {start i at : ℕ} (A : FieldsAsk w c room₀ start) (P : Putting w c.symbols c.fields room₀ room start i at) where
  pub putting-space : at + 9 ≤ length room
  putting-space = omega (arith, A.space, P.behind, P.size, fields-more w c.symbols i c.fields P.few)

  pub putting-on : i < c.fields → {room' : List ℕ} {to : ℕ} → FieldPut w c.symbols i room room' at to → length room' ≡ length room → Putting w c.symbols c.fields room₀ room' start (i + 1) to
  unfolding fields_in
  putting-on h {room'} {to} F l =
      let s = fields-more w c.symbols i c.fields P.few in
      rw (add-one i) (record {
        few = omega arith;
        is = F.is ∙ laid_then start at (fields_in w c.symbols i) (field_in w c.symbols i) room₀ room (omega (arith, A.space)) P.behind P.is;
        behind = F.behind ∙ (let e : at + length (field_in w c.symbols i) ≡ start + length (fields_in w c.symbols i ++ field_in w c.symbols i) = omega (arith, P.behind, length-append (fields_in w c.symbols i) (field_in w c.symbols i)) in e);
        size = l ∙ P.size;
      })

  pub putting-end : c.fields ≤ i → FieldsPut w c room₀ room start at
  putting-end h = let e : i ≡ c.fields = omega (arith, P.few) in record { is = subst (λ i. room ≡ laid start (fields_in w c.symbols i) room₀) e P.is; behind = subst (λ i. at ≡ start + length (fields_in w c.symbols i)) e P.behind }
