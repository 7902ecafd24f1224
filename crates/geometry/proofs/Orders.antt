-- The laws of an exchange, and what it comes to in each order, in the papers' own formulas: the only proofs that go by the order.
-- Each is shown once for each of the two orders; what the laws of sectors need of an order are the first four.
use Prim.Native.Nat.{ℕ, ◌+◌, ◌*◌, ◌/◌, ◌%◌, ◌<◌}
use mathlib.Core.Bool.{Bool, false, true}
use mathlib.Core.Path.{◌≡◌, refl}
use native.Mathlib.Nat.{mul_comm}
use Rattle.geometry.specs.declared.Geometry.{Geometry}
use Rattle.geometry.specs.declared.VolumeNumber.{VolumeNumber}
use Rattle.geometry.specs.Drive.{C, N, S, goes_by_head, start, volume}
use Rattle.geometry.specs.Orders.{ordered}
use Rattle.geometry.specs.Sectors.{address, address_of, number_of}
use Rattle.geometry.specs.Sectors.Inside.{address_of_is, number_of_is}

-- The exchange leads back, keeps what is less below what is more, and keeps a bound on both and the product.
pub ordered_back : (o : Bool) (p : ℕ × ℕ) → ordered o (ordered o p) ≡ p
ordered_back true p = refl
ordered_back false p = refl

pub ordered_below :
    (o : Bool) (p q : ℕ × ℕ) → p.0 < q.0 → p.1 < q.1 → ((ordered o p).0 < (ordered o q).0) × ((ordered o p).1 < (ordered o q).1)
ordered_below true p q first second = (first, second)
ordered_below false p q first second = (second, first)

pub ordered_bounded : (o : Bool) (p : ℕ × ℕ) (m : ℕ) → p.0 < m → p.1 < m → ((ordered o p).0 < m) × ((ordered o p).1 < m)
ordered_bounded true p m first second = (first, second)
ordered_bounded false p m first second = (second, first)

pub ordered_product : (o : Bool) (p : ℕ × ℕ) → (ordered o p).0 * (ordered o p).1 ≡ p.0 * p.1
ordered_product true p = refl
ordered_product false p = mul_comm p.1 p.0

-- What a number means and which number an address has, with the attribute on as in 01 and with it off as in 02, K4. Addresses and numbers agree with each
-- other in any exchange; that it is the papers' is said here.
module _ (g : Geometry) (v : VolumeNumber) where
  abbrev Nv : ℕ
  Nv = N (volume g v)

  pub addresses_by_head :
      goes_by_head g ≡ true → (n : ℕ) → address_of g v n ≡ address (n / (S g * Nv)) (start (volume g v) + (n / S g) % Nv) (n % S g)
  addresses_by_head on n = rw (address_of_is, on)

  pub addresses_by_cylinder :
      goes_by_head g ≡ false → (n : ℕ) → address_of g v n ≡ address ((n / S g) % C g) (start (volume g v) + n / (S g * C g)) (n % S g)
  addresses_by_cylinder off n = rw (address_of_is, off)

  pub numbers_by_head : goes_by_head g ≡ true → (c h s : ℕ) → number_of g v c h s ≡ (c * Nv + h) * S g + s
  numbers_by_head on c h s = rw (number_of_is, on)

  pub numbers_by_cylinder : goes_by_head g ≡ false → (c h s : ℕ) → number_of g v c h s ≡ (h * C g + c) * S g + s
  numbers_by_cylinder off c h s = rw (number_of_is, off)
