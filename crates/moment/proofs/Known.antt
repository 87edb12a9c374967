-- A join of the past has its records in the columns: their tags are tags, and where there are two, older joins bring their arguments
-- together. All of it is read off what justifies the join. Assumes nothing.
use Prim.Native.Nat.{ℕ, suc, ◌≤◌, ◌<◌}
use native.Mathlib.Omega.{arith}
use mathlib.Core.Path.{◌≡◌, refl, sym, ◌∙◌}
use mathlib.Core.Logic.{◌≢◌}
use mathlib.Core.Bool.{Bool, true, false, cond}
use mathlib.Core.List.{List}
use lib.Dec.{eqb}
use borrow.Author.Tests.{eq-eqb, ne_eqb}
use Rattle.meaning.specs.Following.{Rec, eq, app, At}
use Rattle.meaning.specs.Joins.{Why, by, cong, Join, Joined, Grounds, equation, applications}
use Rattle.meaning.specs.Needed.{Arguments}
use Rattle.meaning.proofs.Reference.{Small}
use Rattle.table.specs.Map.{left_of, right_of, result_of, first_of, second_of, rec_at, records_in, join_at, Loaded}
use Rattle.table.proofs.Frame.{length-gather, get_or-gather}
use Rattle.table.specs.Past.{Past}
use Rattle.table.specs.Places.{EQUATION}

-- What stands as record k of the table is what the columns say.
pub record Stands (N len : ℕ) (w : List ℕ) (k : ℕ) (r : Rec) : Type 0 where
  pub some : 1 ≤ k
  pub most : k ≤ len
  pub is : rec_at w k ≡ r
  pub small : Small N r

pub at-stands : {N len : ℕ} {w : List ℕ} {k : ℕ} {r : Rec} → Loaded N len w → At (records_in len w) k r → Stands N len w k r
at-stands {N} {len} {w} {k} {r} h i =
    let l : i.place < len = rw (length-gather (λ k. rec_at w (suc k)) len) at i.stands in
    let q : rec_at w (suc i.place) ≡ r = sym (get_or-gather (λ k. rec_at w (suc k)) len i.place (eq 0 0) l) ∙ i.is in
    record {
      some = omega (arith, i.number);
      most = omega (arith, i.number);
      is = rw i.number q;
      small = rw q at (h.small i.place l);
    }

-- The same record under an equal number, and an application under the columns' own names.
at_moved : {rs : List Rec} {k f : ℕ} {r : Rec} → f ≡ k → At rs k r → At rs f r
at_moved e i = rw e i

app-moved : {rs : List Rec} {k f a b x y c : ℕ} → f ≡ k → a ≡ x → b ≡ y → At rs k (app x y c) → At rs f (app a b c)
app-moved e p q i = rw (e, p, q) i

joined-moved : {e : ℕ → Join} {b x y x' y' : ℕ} → x ≡ x' → y ≡ y' → Joined e b x' y' → Joined e b x y
joined-moved p q i = rw (p, q) i

app-columns : (w : List ℕ) (k a b c : ℕ) (e : Bool) → cond e (eq (left_of w k) (right_of w k)) (app (left_of w k) (right_of w k) (result_of w k)) ≡ app a b c
    → (left_of w k ≡ a) × (right_of w k ≡ b) × (result_of w k ≡ c)
app-columns w k a b c true q = let z : ◌≡◌ {A = ℕ} 0 1 = cc in absurd (omega arith)
app-columns w k a b c false q = (cc, cc, cc)

-- The join of age b, by its kind.
pub record One (N len : ℕ) (w : List ℕ) (b : ℕ) : Type 0 where
  pub why : (join_at w b).why ≡ by (first_of w b)
  pub first : Stands N len w (first_of w b) (eq (join_at w b).u (join_at w b).v)
  pub at : At (records_in len w) (first_of w b) (eq (join_at w b).u (join_at w b).v)

pub record Two (N len : ℕ) (w : List ℕ) (b : ℕ) : Type 0 where
  pub why : (join_at w b).why ≡ cong (first_of w b) (second_of w b)
  pub first : Stands N len w (first_of w b) (app (left_of w (first_of w b)) (right_of w (first_of w b)) (join_at w b).u)
  pub second : Stands N len w (second_of w b) (app (left_of w (second_of w b)) (right_of w (second_of w b)) (join_at w b).v)
  pub at : At (records_in len w) (first_of w b) (app (left_of w (first_of w b)) (right_of w (first_of w b)) (join_at w b).u)
  pub at' : At (records_in len w) (second_of w b) (app (left_of w (second_of w b)) (right_of w (second_of w b)) (join_at w b).v)
  pub lefts : Joined (join_at w) b (left_of w (first_of w b)) (left_of w (second_of w b))
  pub rights : Joined (join_at w) b (right_of w (first_of w b)) (right_of w (second_of w b))

module _ {N len n : ℕ} {w : List ℕ} (P : Past N len w n) (b : ℕ) (l : b < n) where
  pub join_one : second_of w b ≡ 0 → One N len w b
  join_one z = go (join_at w b).why refl (P.justified b l tt)
    where
      is : (join_at w b).why ≡ by (first_of w b)
      is = rw (eq-eqb (second_of w b) 0 z)

      go : (y : Why) → (join_at w b).why ≡ y → Grounds (records_in len w) (Joined (join_at w) b) (join_at w b).u (join_at w b).v y → One N len w b
      go (by k) q (equation i) =
          let i' : At (records_in len w) (first_of w b) (eq (join_at w b).u (join_at w b).v) = at_moved (cc) i in
          record { why = is; first = at-stands P.loaded i'; at = i' }
      go (cong k k') q g = let y : ◌≡◌ {A = ℕ} 0 1 = cc in absurd (omega arith)

  pub join-two : second_of w b ≢ 0 → Two N len w b
  join-two z = go (join_at w b).why refl (P.justified b l tt)
    where
      is : (join_at w b).why ≡ cong (first_of w b) (second_of w b)
      is = rw (ne_eqb (second_of w b) 0 z)

      two : (k k' : ℕ) → first_of w b ≡ k → second_of w b ≡ k' → (x y x' y' : ℕ) → At (records_in len w) k (app x y (join_at w b).u) → At (records_in len w) k' (app x' y' (join_at w b).v)
          → Joined (join_at w) b x x' → Joined (join_at w) b y y' → Two N len w b
      two k k' e e' x y x' y' i i' j j' =
          let s = at-stands P.loaded (at_moved e i) in
          let s' = at-stands P.loaded (at_moved e' i') in
          let c = app-columns w (first_of w b) x y (join_at w b).u (eqb (result_of w (first_of w b)) EQUATION) s.is in
          let c' = app-columns w (second_of w b) x' y' (join_at w b).v (eqb (result_of w (second_of w b)) EQUATION) s'.is in
          let at = app-moved e c.0 c.1 i in
          let at' = app-moved e' c'.0 c'.1 i' in
          record {
            why = is;
            first = at-stands P.loaded at;
            second = at-stands P.loaded at';
            at = at;
            at' = at';
            lefts = joined-moved c.0 c'.0 j;
            rights = joined-moved c.1 c'.1 j';
          }

      go : (y : Why) → (join_at w b).why ≡ y → Grounds (records_in len w) (Joined (join_at w) b) (join_at w b).u (join_at w b).v y → Two N len w b
      go (by k) q g = let y : ◌≡◌ {A = ℕ} 0 1 = cc is in absurd (omega arith)
      go (cong k k') q (applications {a = x} {b = y} {a' = x'} {b' = y'} i i' j j') = two k k' (cc is) (cc is) x y x' y' i i' j j'

  -- The columns have the arguments of the first of two applications.
  pub join-arguments : {x y : ℕ} → Arguments (records_in len w) (join_at w) b x y → (second_of w b ≢ 0) × (left_of w (first_of w b) ≡ x) × (right_of w (first_of w b) ≡ y)
  join-arguments {x} {y} i = (two, columns.0, columns.1)
    where
      two : second_of w b ≢ 0
      two z =
          let q : by (first_of w b) ≡ cong i.first i.second = sym (join_one z).why ∙ i.why in
          let o : ◌≡◌ {A = ℕ} 0 1 = cc q in
          omega arith

      first : first_of w b ≡ i.first
      first =
          let q : cong (first_of w b) (second_of w b) ≡ cong i.first i.second = sym (join-two two).why ∙ i.why in
          cc q

      columns : (left_of w (first_of w b) ≡ x) × (right_of w (first_of w b) ≡ y) × (result_of w (first_of w b) ≡ i.result)
      columns = app-columns w (first_of w b) x y i.result (eqb (result_of w (first_of w b)) EQUATION) (at-stands P.loaded (at_moved first i.at)).is
