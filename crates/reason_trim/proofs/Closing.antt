-- What was not left out comes to the front; and from what waits to what is kept. Assumes nothing.
use Prim.Native.Nat.{ℕ, suc, ◌+◌, ◌≤◌, ◌<◌}
use native.Mathlib.Omega.{arith}
use native.Mathlib.Decide.{ℕ_discrete}
use mathlib.Core.Path.{◌≡◌, refl, sym, ◌∙◌, ap}
use mathlib.Core.Logic.{◌≢◌, inl, inr}
use mathlib.Core.List.{List, Memᴰ}
use lib.ListN.{set}
use Rattle.meaning.specs.Following.{Rec, Follows, Those, Only, Without}
use Rattle.meaning.specs.Joins.{put}
use Rattle.meaning.proofs.Close.{more}
use Rattle.meaning.proofs.Log.{put-hit, put-miss}
use Rattle.table.specs.Places.{FRONT, LABEL, LIST, Large, PARENT, before_halved, from_to, front_part, front_size, scratch, waiting_at}
use Rattle.table.specs.Map.{list_of, list_in, records_in, Within, place_of}
use Rattle.table.proofs.Frame.{seen_at, seen-in, gather-in, in-gather, within-refl, within-trans, within_wider, within-set}
use Rattle.table.proofs.Kept.{records-same, loaded-same}
use Rattle.list_ways.specs.Halves.{Picked, Every}
use Rattle.list_ways.proofs.Halves.{halved-list}
use Rattle.list_halve.specs.Halving.{Sifting, Sifted}
use Rattle.reason_list.specs.Listing.{waiting_in}
use Rattle.reason_trim.specs.Trimming.{Copied, Moved, Together, Pruned, Followed}

-- A place of the list.
pub place-list : (w : List ℕ) (j : ℕ) → j < front_size → place_of w j ≡ list_of w j
place-list w j l = seen_at FRONT w j l ∙ sym (seen_at LIST w j (omega arith))

-- The first i places were gone through.
pub record Closing (w w' : List ℕ) (i kept : ℕ) : Type 0 where
  pub long : Large w
  pub few : kept ≤ i
  pub kept_in : Within front_part w w'
  pub rest : (j : ℕ) → i ≤ j → place_of w' j ≡ place_of w j
  pub to : (j : ℕ) → j < i → place_of w j ≢ 0 → (m : ℕ) × (m < kept) × (place_of w' m ≡ place_of w j)
  pub from : (m : ℕ) → m < kept → (j : ℕ) × (j < i) × (place_of w j ≡ place_of w' m) × (place_of w' m ≢ 0)

pub closing-start : {w : List ℕ} → Large w → Closing w w 0 0
closing-start {w} h = record { long = h; few = omega arith; kept_in = within-refl w; rest = λ j l. refl; to = λ j l. absurd (omega arith); from = λ m l. absurd (omega arith) }

pub closing-more : {w w₁ w₂ : List ℕ} {i kept r : ℕ} → i < front_size → Closing w w₁ i kept → Moved w₁ w₂ i kept r → Closing w w₂ (suc i) r
closing-more {w} {w₁} {w₂} {i} {kept} {r} l c m = go (ℕ_discrete (place_of w₁ i) 0)
  where
    here : place_of w₁ i ≡ place_of w i
    here = c.rest i (omega arith)

    go : Dec (place_of w₁ i ≡ 0) → Closing w w₂ (suc i) r
    go (yes e) = let z = m.none e in rw (z.0, z.1) (record {
      long = c.long;
      few = omega (arith, c.few);
      kept_in = c.kept_in;
      rest = λ j h. c.rest j (omega arith);
      to = λ j h d. to j h d (ℕ_discrete j i);
      from = λ k h. let y = c.from k h in (y.0, omega (arith, y.1), y.2, y.3);
    })
      where
        to : (j : ℕ) → j < suc i → place_of w j ≢ 0 → Dec (j ≡ i) → (k : ℕ) × (k < kept) × (place_of w₁ k ≡ place_of w j)
        to j h d (yes q) = absurd (d (ap (place_of w) q ∙ sym here ∙ e))
        to j h d (no q) = c.to j (omega arith) d
    go (no e) = let z = m.some e in rw (z.0, z.1) (record {
      long = c.long;
      few = omega (arith, c.few);
      kept_in = within-trans c.kept_in (within-set front_part w₁ (LIST.at + kept) (place_of w₁ i) (omega arith) (omega (arith, c.few)));
      rest = λ j h. rw now (put-miss kept (place_of w₁ i) (place_of w₁) j (λ q. omega (arith, c.few)) ∙ c.rest j (omega arith));
      to = λ j h d. rw now (to j h d (ℕ_discrete j i));
      from = λ k h. rw now (from k h (ℕ_discrete k kept));
    })
      where
        now : place_of (set w₁ (LIST.at + kept) (place_of w₁ i)) ≡ put kept (place_of w₁ i) (place_of w₁)
        now = seen-in FRONT w₁ kept (place_of w₁ i) (omega (arith, c.few)) (omega (arith, c.few, c.kept_in.size, c.long))

        to : (j : ℕ) → j < suc i → place_of w j ≢ 0 → Dec (j ≡ i) → (k : ℕ) × (k < suc kept) × (put kept (place_of w₁ i) (place_of w₁) k ≡ place_of w j)
        to j h d (yes q) = (kept, omega arith, put-hit kept (place_of w₁ i) (place_of w₁) ∙ here ∙ ap (place_of w) (sym q))
        to j h d (no q) = let y = c.to j (omega arith) d in (y.0, omega (arith, y.1), put-miss kept (place_of w₁ i) (place_of w₁) y.0 (λ o. omega (arith, y.1)) ∙ y.2)

        from : (k : ℕ) → k < suc kept → Dec (k ≡ kept) → (j : ℕ) × (j < suc i) × (place_of w j ≡ put kept (place_of w₁ i) (place_of w₁) k) × (put kept (place_of w₁ i) (place_of w₁) k ≢ 0)
        from k h (yes q) = let y : put kept (place_of w₁ i) (place_of w₁) k ≡ place_of w₁ i = rw q (put-hit kept (place_of w₁ i) (place_of w₁)) in (i, omega arith, sym here ∙ sym y, λ o. e (sym y ∙ o))
        from k h (no q) = let y = c.from k (omega arith) in let x : put kept (place_of w₁ i) (place_of w₁) k ≡ place_of w₁ k = put-miss kept (place_of w₁ i) (place_of w₁) k q in (y.0, omega (arith, y.1), y.2 ∙ sym x, λ o. y.3 (sym x ∙ o))

pub closing_end : {w w' : List ℕ} {n kept : ℕ} → n ≤ front_size → Closing w w' n kept → Together w w' n kept
closing_end {w} {w'} {n} {kept} h c = record {
  kept_in = c.kept_in;
  few = c.few;
  to = λ j l d. let y = c.to j l d in rw (← y.2, place-list w' y.0 (omega (arith, y.1, c.few))) (gather-in (list_of w') kept y.0 y.1);
  from = λ k i. let x = in-gather (list_of w') kept k i in let y = c.from x.0 x.1 in let z : place_of w' x.0 ≡ k = place-list w' x.0 (omega (arith, x.1, c.few)) ∙ x.2 in (y.0, y.1, y.2 ∙ z, λ o. y.3 (z ∙ o));
}

-- From what waits to the front.
module _ {N len s t n : ℕ} {w w₁ : List ℕ} (F : Followed N len s t w n) (C : Copied w w₁ waiting_at 0 n) where
  wide : Within (from_to PARENT.at LABEL.at) w w₁
  wide = within_wider (from_to PARENT.at LABEL.at) (omega arith) (omega arith) C.kept

  front : (j : ℕ) → j < n → place_of w₁ j ≡ list_of w (waiting_at + j)
  front j l =
      let e : 0 + j ≡ j = omega arith in
      let c : list_of w₁ j ≡ list_of w (waiting_at + j) = rw e at (C.copy j l) in
      place-list w₁ j (omega (arith, F.short)) ∙ c

  waits : (j : ℕ) → j < n → Memᴰ (place_of w₁ j) (waiting_in n w)
  waits j l = rw (front j l) (gather-in (λ i. list_of w (waiting_at + i)) n j l)

  pub followed-sifting : Sifting N len n s t w₁
  followed-sifting = record {
    listing = record { loaded = loaded-same wide F.loaded; short = omega (arith, F.short); named = λ j l. F.named (place_of w₁ j) (waits j l) };
    entails = more there F.entails;
    s-tag = F.s-tag;
    t-tag = F.t-tag;
  }
    where
      there : (r : Rec) → Only (records_in len w) (waiting_in n w) r → Those (records_in len w₁) (Picked (place_of w₁) n Every) r
      there r i = let x = in-gather (λ j. list_of w (waiting_at + j)) n i.0 i.1 in (i.0, (x.0, x.1, tt, front x.0 x.1 ∙ x.2), rw (records-same wide len) i.2)

  -- And what is left of it.
  pub pruned : {w₂ w₃ : List ℕ} {kept : ℕ} → Sifted len n s t w₁ w₂ → Together w₂ w₃ n kept → Pruned N len s t w w₃ n kept
  pruned {w₂} {w₃} {kept} S T = record {
    kept_in = whole;
    few = T.few;
    fewer = λ k i. let x = T.from k i in let e = still x.0 (λ o. x.3 (sym x.2 ∙ o)) in rw (← x.2, e) (waits x.0 x.1);
    entails = rw records both.0;
    unspared = rw records both.1;
  }
    where
      whole : Within scratch w w₃
      whole = within-trans (within_wider scratch (omega arith) (omega arith) C.kept) (within-trans (within_wider scratch (omega arith) (omega arith) S.kept) (within_wider scratch (omega arith) (omega arith) T.kept_in))

      records : records_in len w₃ ≡ records_in len w₁
      records = records-same (within_wider before_halved (omega arith) (omega arith) T.kept_in) len ∙ records-same (within_wider before_halved (omega arith) (omega arith) S.kept) len

      still : (j : ℕ) → place_of w₂ j ≢ 0 → place_of w₂ j ≡ place_of w₁ j
      still j d = elim (S.halved.fewer j) [ inl e ↦ e | inr e ↦ absurd (d e) ]

      both : Follows (Only (records_in len w₁) (list_in kept w₃)) s t × ((m : ℕ) → Memᴰ m (list_in kept w₃) → Follows (Without (records_in len w₁) (list_in kept w₃) m) s t → ⊥)
      both = halved-list S.halved T.to T.from
