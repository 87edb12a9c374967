-- The columns after one more field, part or symbol. Assumes nothing.
use Prim.Native.Nat.{ℕ, suc, ◌+◌, ◌<◌}
use native.Mathlib.Omega.{arith}
use mathlib.Core.Path.{◌≡◌, sym, ◌∙◌, ap, subst}
use mathlib.Core.List.{List, [], ◌∷◌, ◌++◌, map, map-append}
use lib.ListN.{length, set, length-map}
use Rattle.script_terms.specs.Flat.{Item}
use Rattle.script_shelf.specs.Columns.{start_of, column, Laid, note_in, file_in, mark_in}
use Rattle.script_shelf.specs.Keys.{last_with, links, heads}
use Rattle.script_shelf.specs.Shelf.{Mark, Halves, name_key, pair_key, kind_of, first_of, second_of, third_of, columns}
use Rattle.script_shelf.proofs.Columns.{push-laid, put-laid}
use Rattle.script_shelf.proofs.Keys.{links-push, heads-push, length-heads, length-links}

-- A column grows, with its place and its list as the user has them.
pub grow : {L : List (List ℕ)} {w l' : List ℕ} (j n v : ℕ) → Laid L w → j < 13 → n ≡ length (column L j) → start_of j + n < start_of (suc j) → l' ≡ column L j ++ v ∷ [] → Laid (set L j l') (set w (start_of j + n) v)
grow {L} {w} j n v D h e f q = rw (q, e) (push-laid j v D h (subst (λ n. start_of j + n < start_of (suc j)) e f))

pub change : {L : List (List ℕ)} {w l' : List ℕ} (j i v : ℕ) → Laid L w → j < 13 → i < length (column L j) → l' ≡ set (column L j) i v → Laid (set L j l') (set w (start_of j + i) v)
change j i v D h b q = rw q (put-laid j i v D h b)

module _ (s : List ℕ) (ms : List Mark) (hs : List Halves) (fs : List Item) {w : List ℕ} {n : ℕ} (D : Laid (columns s ms hs fs) w) where
  pub note-laid : (f : Item) → n ≡ length fs → n < 5501 → Laid (columns s ms hs (fs ++ f ∷ [])) (note_in w n (kind_of f) (first_of f) (second_of f) (third_of f))
  unfolding note_in
  note-laid f e b =
      let d₁ = grow {l' = map kind_of (fs ++ f ∷ [])} 9 n (kind_of f) D (omega arith) (e ∙ sym (length-map fs kind_of)) (omega arith) (map-append kind_of fs (f ∷ [])) in
      let d₂ = grow {l' = map first_of (fs ++ f ∷ [])} 10 n (first_of f) d₁ (omega arith) (e ∙ sym (length-map fs first_of)) (omega arith) (map-append first_of fs (f ∷ [])) in
      let d₃ = grow {l' = map second_of (fs ++ f ∷ [])} 11 n (second_of f) d₂ (omega arith) (e ∙ sym (length-map fs second_of)) (omega arith) (map-append second_of fs (f ∷ [])) in
      grow {l' = map third_of (fs ++ f ∷ [])} 12 n (third_of f) d₃ (omega arith) (e ∙ sym (length-map fs third_of)) (omega arith) (map-append third_of fs (f ∷ []))

  pub file-laid : (h : Halves) (head : ℕ) → n ≡ length hs → n < 1001 → pair_key h < 509 → head ≡ last_with (map pair_key hs) (pair_key h) n
      → Laid (columns s ms (hs ++ h ∷ []) fs) (file_in w n h.left h.right (pair_key h) head)
  unfolding file_in
  file-laid h head e b k q =
      let ks = map pair_key hs in
      let z : length ks ≡ n = length-map hs pair_key ∙ sym e in
      let u : suc (length ks) ≡ n + 1 = omega arith in
      let m : map pair_key (hs ++ h ∷ []) ≡ ks ++ pair_key h ∷ [] = map-append pair_key hs (h ∷ []) in
      let d₁ = grow {l' = map (λ h. h.left) (hs ++ h ∷ [])} 5 n h.left D (omega arith) (e ∙ sym (length-map hs (λ h. h.left))) (omega arith) (map-append (λ h. h.left) hs (h ∷ [])) in
      let d₂ = grow {l' = map (λ h. h.right) (hs ++ h ∷ [])} 6 n h.right d₁ (omega arith) (e ∙ sym (length-map hs (λ h. h.right))) (omega arith) (map-append (λ h. h.right) hs (h ∷ [])) in
      let d₃ = grow {l' = links (map pair_key (hs ++ h ∷ []))} 7 n head d₂ (omega arith) (sym (length-links ks ∙ z)) (omega arith) (ap links m ∙ links-push ks (pair_key h) ∙ ap (λ x. links ks ++ x ∷ []) (ap (last_with ks (pair_key h)) z ∙ sym q)) in
      change {l' = heads (map pair_key (hs ++ h ∷ []))} 8 (pair_key h) (n + 1) d₃ (omega arith) (omega (arith, length-heads ks)) (ap heads m ∙ heads-push ks (pair_key h) k ∙ ap (λ x. set (heads ks) (pair_key h) x) u)

  pub mark-laid : (m : Mark) (head : ℕ) → n ≡ length ms → n < 1001 → name_key s m < 509 → head ≡ last_with (map (name_key s) ms) (name_key s m) n
      → Laid (columns s (ms ++ m ∷ []) hs fs) (mark_in w n m.from m.to m.takes (name_key s m) head)
  unfolding mark_in
  mark-laid m head e b k q =
      let ks = map (name_key s) ms in
      let z : length ks ≡ n = length-map ms (name_key s) ∙ sym e in
      let u : suc (length ks) ≡ n + 1 = omega arith in
      let x : map (name_key s) (ms ++ m ∷ []) ≡ ks ++ name_key s m ∷ [] = map-append (name_key s) ms (m ∷ []) in
      let d₁ = grow {l' = map (λ m. m.from) (ms ++ m ∷ [])} 0 n m.from D (omega arith) (e ∙ sym (length-map ms (λ m. m.from))) (omega arith) (map-append (λ m. m.from) ms (m ∷ [])) in
      let d₂ = grow {l' = map (λ m. m.to) (ms ++ m ∷ [])} 1 n m.to d₁ (omega arith) (e ∙ sym (length-map ms (λ m. m.to))) (omega arith) (map-append (λ m. m.to) ms (m ∷ [])) in
      let d₃ = grow {l' = map (λ m. m.takes) (ms ++ m ∷ [])} 2 n m.takes d₂ (omega arith) (e ∙ sym (length-map ms (λ m. m.takes))) (omega arith) (map-append (λ m. m.takes) ms (m ∷ [])) in
      let d₄ = grow {l' = links (map (name_key s) (ms ++ m ∷ []))} 3 n head d₃ (omega arith) (sym (length-links ks ∙ z)) (omega arith) (ap links x ∙ links-push ks (name_key s m) ∙ ap (λ x. links ks ++ x ∷ []) (ap (last_with ks (name_key s m)) z ∙ sym q)) in
      change {l' = heads (map (name_key s) (ms ++ m ∷ []))} 4 (name_key s m) (n + 1) d₄ (omega arith) (omega (arith, length-heads ks)) (ap heads x ∙ heads-push ks (name_key s m) k ∙ ap (λ x. set (heads ks) (name_key s m) x) u)
