-- The promises of going back and of halving. No meaning rests on it. Assumes nothing.
use Rattle.std.specs.Prelude.{ℕ, ◌+◌, ◌≤◌, ◌<◌, ◌≡◌, ◌≢◌, ◌↔◌, Bool, true, List}
use Rattle.meaning.specs.Following.{Follows, Those}
use Rattle.table.specs.Places.{add_part, from_to, front_size, halve_part, plain}
use Rattle.table.specs.Map.{seen, label_of, records_in, Within, member_of, place_of, queue_of, trail_of}
use Rattle.list_ways.specs.Halves.{Picked, Outside, Every, Halved}
use Rattle.list_rings.specs.Links.{Since, Standing}
use Rattle.list_add.specs.State.{In}
use Rattle.list_add.specs.Adding.{Steady, Adding}
use Rattle.list_add.specs.Filing.{Listing}

-- Places lo..hi were taken out, and all joins from number k on taken back.
pub record Backed (w w' : List ℕ) (lo hi k j : ℕ) : Type 0 where
  pub kept : Within add_part w w'
  pub steady : Steady k w w'
  pub outs : (i : ℕ) → lo ≤ i → i < hi → queue_of w' i ≡ 0
  pub else : (i : ℕ) → Outside lo hi i → queue_of w' i ≡ queue_of w i
  pub back : (w₀ : List ℕ) → Standing w₀ k → Since (trail_of w) k w₀ j w → (label_of w' ≡ label_of w₀) × (member_of w' ≡ member_of w₀)

-- The labels decide what follows from the places outside lo..hi; all places make s and t equal.
pub record Ready (N len n s t : ℕ) (w : List ℕ) (lo hi k : ℕ) : Type 0 where
  pub adding : Adding N len n w lo hi k
  pub ins : (j : ℕ) → j < n → Outside lo hi j → place_of w j ≢ 0 → In w j
  pub entails : Follows (Those (records_in len w) (Picked (place_of w) n Every)) s t
  pub s-tag : s < N
  pub t-tag : t < N

-- From w to w' the spare records of lo..hi were left out: the labels are as before, and so is all else but the list.
pub record Done (len n s t : ℕ) (w w' : List ℕ) (lo hi k : ℕ) : Type 0 where
  pub kept : Within halve_part w w'
  pub steady : Steady k w w'
  pub labels : label_of w' ≡ label_of w
  pub members : member_of w' ≡ member_of w
  pub queue : queue_of w' ≡ queue_of w
  pub halved : Halved (records_in len w) s t n lo hi (place_of w) (place_of w')

-- Of the region by place that begins at `at`, those of lo..hi became 0.
pub record Blanked (at : ℕ) (w w' : List ℕ) (lo hi : ℕ) : Type 0 where
  pub kept : Within (from_to at (at + front_size)) w w'
  pub outs : (i : ℕ) → lo ≤ i → i < hi → seen (plain at front_size) w' i ≡ 0
  pub else : (i : ℕ) → Outside lo hi i → seen (plain at front_size) w' i ≡ seen (plain at front_size) w i

-- The list makes s and t equal; and spare records were left out of it until none is left.
pub record Sifting (N len n s t : ℕ) (w : List ℕ) : Type 0 where
  pub listing : Listing N len n w
  pub entails : Follows (Those (records_in len w) (Picked (place_of w) n Every)) s t
  pub s-tag : s < N
  pub t-tag : t < N

pub record Sifted (len n s t : ℕ) (w w' : List ℕ) : Type 0 where
  pub kept : Within halve_part w w'
  pub halved : Halved (records_in len w) s t n 0 n (place_of w) (place_of w')

-- Whether s and t are equal by exactly the records of the first n places; the list stays.
pub record Entailing (len n s t : ℕ) (w w' : List ℕ) (answer : Bool) : Type 0 where
  pub kept : Within add_part w w'
  pub exact : (answer ≡ true) ↔ Follows (Those (records_in len w) (Picked (place_of w) n Every)) s t
