-- A record that is tried changes the table as it changes the two functions on paper. Assumes nothing.
use Prim.Native.Nat.{ℕ, suc, ◌+◌, ◌≤◌, ◌<◌}
use native.Mathlib.Omega.{arith}
use mathlib.Core.Path.{◌≡◌, refl, sym, ap}
use mathlib.Core.Logic.{◌≢◌, inl, inr}
use mathlib.Core.Bool.{Bool, true, false, cond}
use mathlib.Core.List.{List}
use lib.ListN.{length, set, length-set}
use borrow.Author.Tests.{eq-eqb, ne_eqb}
use Rattle.meaning.specs.Joins.{put}
use Rattle.meaning.specs.Limits.{most_tags, most_records}
use Rattle.table.specs.Map.{left_of, right_of}
use Rattle.table.specs.Places.{behind_columns}
use Rattle.table.proofs.Frame.{seen-in, seen-out, within-refl, within-trans, within-set}
use Rattle.table.proofs.Kept.{lefts, rights}
use Rattle.table.proofs.Frame.{within_wider}
use Rattle.harness_meaning.specs.Search.{far, sooner, Ends, During, State, offer}
use Rattle.harness_meaning.specs.Search as search
use Rattle.harness_meaning.proofs.Offers.{With, offered}
use Rattle.harness_table.specs.Levels.{LEVELS, LASTS, unfound, found_part, lev_in, last_in}
use Rattle.harness_find.specs.Table.{state_in, Trial, Offered}
use Rattle.harness_find.proofs.Places.{level-small}

-- The four cases of trying a record, on paper.
module _ (a b : ℕ → ℕ) (d top k u v : ℕ) (st : State) where
  offer-far : st.lev u ≢ d → offer a b d top k u v st ≡ st
  offer-far e = rw (ne_eqb (st.lev u) d e) refl

  module _ (lu : st.lev u ≡ d) where
    offer-new : st.lev v ≡ top → offer a b d top k u v st ≡ record { lev = put v (suc d) st.lev; last = put v k st.last }
    offer-new e = rw (eq-eqb (st.lev u) d lu, eq-eqb (st.lev v) top e) refl

    module _ (nt : st.lev v ≢ top) where
      offer-low : st.lev v ≢ suc d → offer a b d top k u v st ≡ st
      offer-low e = rw (eq-eqb (st.lev u) d lu, ne_eqb (st.lev v) top nt, ne_eqb (st.lev v) (suc d) e) refl

      offer-next : (t : Bool) → st.lev v ≡ suc d → sooner a b st.last d u (far a b (st.last v) v) k (st.last v) ≡ t
          → offer a b d top k u v st ≡ cond t (record { lev = st.lev; last = put v k st.last }) st
      offer-next t e h = rw (eq-eqb (st.lev u) d lu, ne_eqb (st.lev v) top nt, eq-eqb (st.lev v) (suc d) e, h) refl

-- And in the table.
module _ {w : List ℕ} {d : ℕ} (t : Trial w d) (k u v : ℕ) where
  pub offered-far : lev_in w u ≢ d → Offered w w d k u v
  offered-far e = record { kept = within-refl w; state = sym (offer-far (left_of w) (right_of w) d unfound k u v (state_in w) e) }

  module _ (lu : lev_in w u ≡ d) where
    pub offered-low : lev_in w v ≢ unfound → lev_in w v ≢ d + 1 → Offered w w d k u v
    offered-low n e = record { kept = within-refl w; state = sym (offer-low (left_of w) (right_of w) d unfound k u v (state_in w) lu n (λ q. e (omega arith))) }

    pub offered-new : {w₁ w₂ : List ℕ} {e : ℕ} → v < most_tags → lev_in w v ≡ unfound → e ≡ d + 1 → w₁ ≡ set w (LEVELS.at + v) e → w₂ ≡ set w₁ (LASTS.at + v) k → Offered w w₂ d k u v
    offered-new {w₁} {w₂} {e} l q h f g = record {
      kept = rw (g, f) (within-trans (within-set found_part w (LEVELS.at + v) e (omega arith) (omega arith)) (within-set found_part (set w (LEVELS.at + v) e) (LASTS.at + v) k (omega arith) (omega arith)));
      state = rw (offer-new (left_of w) (right_of w) d unfound k u v (state_in w) lu q, levels, lasts) refl;
    }
      where
        levels : lev_in w₂ ≡ put v (suc d) (lev_in w)
        levels =
            let s : e ≡ suc d = omega arith in
            let n : length w₁ ≡ length w = rw f (length-set w (LEVELS.at + v) e) in
            rw (g, seen-out LEVELS w₁ (LASTS.at + v) k (inr (omega arith)), f, seen-in LEVELS w v e l (omega (arith, t.long)), s) refl

        lasts : last_in w₂ ≡ put v k (last_in w)
        lasts =
            let n : length w₁ ≡ length w = rw f (length-set w (LEVELS.at + v) e) in
            rw (g, seen-in LASTS w₁ v k l (omega (arith, t.long)), f, seen-out LASTS w (LEVELS.at + v) e (inl (omega arith))) refl

    module _ (lv : lev_in w v ≡ suc d) where
      other : lev_in w v ≢ unfound
      other q = omega (arith, t.during.room)

      pub improve-v : v < most_tags
      improve-v = level-small v t (omega arith)

      pub improve-last : last_in w v ≤ most_records
      improve-last = omega (arith, t.during.within v lv, t.few)

      pub improve-down : {j y : ℕ} → j ≡ last_in w v → y ≡ far (left_of w) (right_of w) j v → lev_in w y ≡ d
      improve-down e f = rw (f, e) (t.during.down v lv)

      pub offered-better : {w' : List ℕ} {j y p q : ℕ} → j ≡ last_in w v → y ≡ far (left_of w) (right_of w) j v → p ≡ k → q ≡ j → true ≡ sooner (left_of w) (right_of w) (last_in w) d u y p q → w' ≡ set w (LASTS.at + v) k → Offered w w' d k u v
      offered-better {w'} {j} {y} {p} {q} e f ep eq h g = record {
        kept = rw g (within-set found_part w (LASTS.at + v) k (omega arith) (omega (arith, improve-v)));
        state = rw (offer-next (left_of w) (right_of w) d unfound k u v (state_in w) lu other true lv (sym (rw (ep, eq, f, e) at h)), g, seen-out LEVELS w (LASTS.at + v) k (inr (omega (arith, improve-v))), seen-in LASTS w v k improve-v (omega (arith, t.long, improve-v))) refl;
      }

      pub offered-kept : {j y p q : ℕ} → j ≡ last_in w v → y ≡ far (left_of w) (right_of w) j v → p ≡ k → q ≡ j → false ≡ sooner (left_of w) (right_of w) (last_in w) d u y p q → Offered w w d k u v
      offered-kept {j} {y} {p} {q} e f ep eq h = record { kept = within-refl w; state = sym (offer-next (left_of w) (right_of w) d unfound k u v (state_in w) lu other false lv (sym (rw (ep, eq, f, e) at h))) }

-- So what was known of the levels is known again, with one record more.
pub offered-during : {w w' : List ℕ} {R s d k u v : ℕ} {Seen : ℕ → ℕ → Type 0} → search.Within R k → Ends (left_of w) (right_of w) k u v → Offered w w' d k u v
    → During (left_of w) (right_of w) R s d unfound Seen (lev_in w) (last_in w) → During (left_of w') (right_of w') R s d unfound (With Seen k v) (lev_in w') (last_in w')
offered-during {w} {w'} {R} {s} {d} {k} {u} {v} {Seen} p e o h =
    let f = within_wider behind_columns (omega arith) (omega arith) o.kept in
    let l : lev_in w' ≡ (offer (left_of w) (right_of w) d unfound k u v (state_in w)).lev = ap (λ (st : State). st.lev) o.state in
    let m : last_in w' ≡ (offer (left_of w) (right_of w) d unfound k u v (state_in w)).last = ap (λ (st : State). st.last) o.state in
    rw (lefts f, rights f, l, m) (offered (state_in w) h k u v p e)
