-- One number is stored: the column that it stands in is another, the others stay. One law, and two uses: a column grows by one, and one of its numbers is replaced. Assumes nothing.
use Prim.Native.Nat.{ℕ, zero, suc, ◌+◌, ◌-◌, ◌≤◌, ◌<◌}
use native.Mathlib.Omega.{arith}
use native.Mathlib.Decide.{ℕ_discrete, dec_lt}
use mathlib.Core.Path.{◌≡◌, refl, sym, ◌∙◌, ap, subst}
use mathlib.Core.Logic.{◌≢◌}
use mathlib.Core.List.{List, [], ◌∷◌, ◌++◌}
use lib.Dec.{T, leb, leb→le}
use lib.ListN.{length, get_or, set, replicate, length-append, length-set, get_or-append}
use lib.Seq.{get_or-set_same, get_or-set_other, get_or-append_seam, ext_get_or}
use Rattle.script_terms.proofs.Tests.{both}
use Rattle.script_shelf.specs.Columns.{rising, starts, start_of, column, Laid, up_to}

-- In a rising list later is not less.
rises : (l : List ℕ) → T (rising l) → (j : ℕ) → suc j < length l → get_or l j 0 ≤ get_or l (suc j) 0
rises [] t j h = absurd (omega arith)
rises (a ∷ []) t j h = absurd (omega arith)
rises (a ∷ b ∷ l) t zero h = leb→le a b (both (leb a b) (rising (b ∷ l)) t).0
rises (a ∷ b ∷ l) t (suc j) h = rises (b ∷ l) (both (leb a b) (rising (b ∷ l)) t).1 j (omega arith)

later : (j d : ℕ) → suc (d + j) < 14 → start_of (suc j) ≤ start_of (suc (d + j))
later j zero h = let e : suc j ≡ suc (0 + j) = omega arith in subst (λ k. start_of (suc j) ≤ start_of k) e (omega arith)
later j (suc d) h =
    let r : start_of (suc (d + j)) ≤ start_of (suc (suc (d + j))) = rises starts tt (suc (d + j)) (omega arith) in
    let i : start_of (suc j) ≤ start_of (suc (d + j)) = later j d (omega arith) in
    let e : suc (suc (d + j)) ≡ suc (suc d + j) = omega arith in
    subst (λ k. start_of (suc j) ≤ start_of k) e (omega arith)

pub starts-rise : (j k : ℕ) → j < k → k ≤ 13 → start_of (suc j) ≤ start_of k
starts-rise j k h m = let e : suc ((k - suc j) + j) ≡ k = omega arith in subst (λ i. start_of (suc j) ≤ start_of i) e (later j (k - suc j) (omega arith))

-- The list l' is l with v at i.
pub record Stored (l l' : List ℕ) (i v : ℕ) : Type 0 where
  pub here : i < length l' → get_or l' i 0 ≡ v
  pub else : (k : ℕ) → k < length l' → k ≢ i → (k < length l) × (get_or l' k 0 ≡ get_or l k 0)

pub store_laid : {L : List (List ℕ)} {w l' : List ℕ} (j i v : ℕ) → Laid L w → j < 13 → start_of j + i < start_of (suc j) → start_of j + length l' ≤ start_of (suc j) → Stored (column L j) l' i v → Laid (set L j l') (set w (start_of j + i) v)
store_laid {L} {w} {l'} j i v D h f r S = record {
  long = omega (arith, length-set w (start_of j + i) v, D.long);
  all = length-set L j l' ∙ D.all;
  room = λ k b. room k b (ℕ_discrete k j);
  cell = λ k b x c. cell k b x c (ℕ_discrete k j);
}
  where
    same : column (set L j l') j ≡ l'
    same = get_or-set_same L j l' [] (omega (arith, D.all))

    room : (k : ℕ) → k < 13 → Dec (k ≡ j) → start_of k + length (column (set L j l') k) ≤ start_of (suc k)
    room k b (yes e) = rw (e, same) r
    room k b (no d) = rw (get_or-set_other L j k l' [] d) (D.room k b)

    inside : start_of j + i < length w
    inside = omega (arith, starts-rise j 13 h (omega arith), D.long)

    mine : (x : ℕ) → x < length l' → Dec (x ≡ i) → get_or (set w (start_of j + i) v) (start_of j + x) 0 ≡ get_or l' x 0
    mine x c (yes e) = rw e (get_or-set_same w (start_of j + i) v 0 inside ∙ sym (S.here (subst (λ x. x < length l') e c)))
    mine x c (no d) = get_or-set_other w (start_of j + i) (start_of j + x) v 0 (λ e. d (omega arith)) ∙ D.cell j h x (S.else x c d).0 ∙ sym (S.else x c d).1

    apart : (k : ℕ) → k < 13 → k ≢ j → (x : ℕ) → x < length (column L k) → start_of k + x ≢ start_of j + i
    apart k b d x c e = go (dec_lt k j)
      where
        go : Dec (k < j) → ⊥
        go (yes l) = omega (arith, starts-rise k j l (omega arith), D.room k b)
        go (no l) = omega (arith, starts-rise j k (omega arith) (omega arith))

    cell : (k : ℕ) → k < 13 → (x : ℕ) → x < length (column (set L j l') k) → Dec (k ≡ j) → get_or (set w (start_of j + i) v) (start_of k + x) 0 ≡ get_or (column (set L j l') k) x 0
    cell k b x c (yes e) = rw (e, same) (mine x (subst (λ l. x < length l) (ap (column (set L j l')) e ∙ same) c) (ℕ_discrete x i))
    cell k b x c (no d) =
        let o : column (set L j l') k ≡ column L k = get_or-set_other L j k l' [] d in
        let m : x < length (column L k) = subst (λ l. x < length l) o c in
        rw o (get_or-set_other w (start_of j + i) (start_of k + x) v 0 (apart k b d x m) ∙ D.cell k b x m)

-- A column grows by one.
pub push-laid : {L : List (List ℕ)} {w : List ℕ} (j v : ℕ) → Laid L w → j < 13 → start_of j + length (column L j) < start_of (suc j)
    → Laid (set L j (column L j ++ v ∷ [])) (set w (start_of j + length (column L j)) v)
push-laid {L} {w} j v D h f = store_laid j (length (column L j)) v D h f (omega (arith, e)) (record { here = λ b. get_or-append_seam (column L j) v [] 0; else = else })
  where
    e : length (column L j ++ v ∷ []) ≡ length (column L j) + 1
    e = length-append (column L j) (v ∷ [])

    else : (k : ℕ) → k < length (column L j ++ v ∷ []) → k ≢ length (column L j) → (k < length (column L j)) × (get_or (column L j ++ v ∷ []) k 0 ≡ get_or (column L j) k 0)
    else k b d = let m : k < length (column L j) = omega (arith, e) in (m, get_or-append (column L j) (v ∷ []) 0 k m)

-- A number of a column is replaced.
pub put-laid : {L : List (List ℕ)} {w : List ℕ} (j i v : ℕ) → Laid L w → j < 13 → i < length (column L j) → Laid (set L j (set (column L j) i v)) (set w (start_of j + i) v)
put-laid {L} {w} j i v D h f = store_laid j i v D h (omega (arith, D.room j h)) (omega (arith, e, D.room j h)) (record { here = λ b. get_or-set_same (column L j) i v 0 f; else = λ k b d. (omega (arith, e), get_or-set_other (column L j) i k v 0 d) })
  where
    e : length (set (column L j) i v) ≡ length (column L j)
    e = length-set (column L j) i v

-- A list by its rule.
pub length_up : (f : ℕ → ℕ) (n : ℕ) → length (up_to f n) ≡ n
unfolding up_to
length_up f zero = refl
length_up f (suc n) = length-append (up_to f n) (f n ∷ []) ∙ (let e : length (up_to f n) ≡ n = length_up f n in omega arith)

pub get_or-up : (f : ℕ → ℕ) (n i : ℕ) → i < n → get_or (up_to f n) i 0 ≡ f i
unfolding up_to
get_or-up f zero i h = absurd (omega arith)
get_or-up f (suc n) i h = go (ℕ_discrete i n) (get_or-up f n i)
  where
    go : Dec (i ≡ n) → (i < n → get_or (up_to f n) i 0 ≡ f i) → get_or (up_to f n ++ f n ∷ []) i 0 ≡ f i
    go (yes e) u = rw e (subst (λ k. get_or (up_to f n ++ f n ∷ []) k 0 ≡ f n) (length_up f n) (get_or-append_seam (up_to f n) (f n) [] 0))
    go (no d) u = get_or-append (up_to f n) (f n ∷ []) 0 i (omega (arith, length_up f n)) ∙ u (omega arith)

pub up_same : (f g : ℕ → ℕ) (n : ℕ) → ((i : ℕ) → i < n → f i ≡ g i) → up_to f n ≡ up_to g n
unfolding up_to
up_same f g zero h = refl
up_same f g (suc n) h = rw (up_same f g n (λ i b. h i (omega arith)), h n (omega arith))

-- .. with one number replaced.
pub up-put : (f g : ℕ → ℕ) (n k v : ℕ) → k < n → g k ≡ v → ((i : ℕ) → i < n → i ≢ k → g i ≡ f i) → up_to g n ≡ set (up_to f n) k v
up-put f g n k v b e h = ext_get_or 0 (up_to g n) (set (up_to f n) k v) (length_up g n ∙ sym (length-set (up_to f n) k v ∙ length_up f n)) (λ i c. let m : i < n = omega (arith, length_up g n) in get_or-up g n i m ∙ go i m (ℕ_discrete i k))
  where
    go : (i : ℕ) → i < n → Dec (i ≡ k) → g i ≡ get_or (set (up_to f n) k v) i 0
    go i m (yes q) = rw q (e ∙ sym (get_or-set_same (up_to f n) k v 0 (omega (arith, length_up f n))))
    go i m (no d) = h i m d ∙ sym (get_or-set_other (up_to f n) k i v 0 d ∙ get_or-up f n i m)

pub up_more : (f : ℕ → ℕ) (n : ℕ) → up_to f (suc n) ≡ up_to f n ++ f n ∷ []
unfolding up_to
up_more f n = refl

-- A table with empty columns.
pub start-next : (j : ℕ) → j < 13 → start_of j ≤ start_of (suc j)
start-next j h = rises starts tt j (omega arith)

nothing-at : (n j : ℕ) → column (replicate n []) j ≡ []
nothing-at zero j = refl
nothing-at (suc n) zero = refl
nothing-at (suc n) (suc j) = nothing-at n j

pub empty-laid : (w : List ℕ) → 32768 ≤ length w → Laid (replicate 13 []) w
empty-laid w h = record {
  long = h;
  all = refl;
  room = λ j b. rw (nothing-at 13 j) (omega (arith, start-next j b));
  cell = λ j b i c. absurd (let e : length (column (replicate 13 []) j) ≡ 0 = ap length (nothing-at 13 j) in omega arith);
}
