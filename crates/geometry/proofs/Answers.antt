-- What the steps answer, by cases: inside, what was asked for; outside, that it is.
-- Each definition picks by a decision, and a decision that is known picks its side.
use Rattle.std.proofs.Common.{None, Some}
use Prim.Native.Nat.{ℕ, ◌<◌, ◌≤◌}
use mathlib.Core.Logic.Dec
use mathlib.Core.Logic.{by_cases, if_neg, if_pos}
use mathlib.Core.Path.{◌≡◌, ap}
use native.Mathlib.Decide.{dec_lt}
use native.Mathlib.Omega.{arith}
use Rattle.wire.proofs.Promises.{never}
use Rattle.geometry.specs.declared.Address.{Address}
use Rattle.geometry.specs.declared.Geometry.{Geometry}
use Rattle.geometry.specs.declared.Sector.{Sector}
use Rattle.geometry.specs.declared.VolumeNumber.{VolumeNumber}
use Rattle.geometry.specs.Drive.{C, N, S, drive_sectors, volume, volume_sectors}
use Rattle.geometry.specs.Sectors.{OnDrive, address_of, first_byte, mark_byte, number_of, place_of, numbered}
use Rattle.geometry.specs.Following.{InVolume}
use Rattle.geometry.specs.Answers.{found, placed, sector_at, on_drive?}

pub found_inside : (g : Geometry) (v : VolumeNumber) (n : ℕ) → n < volume_sectors g v → found g v n ≡ Some (address_of g v n)
unfolding found
found_inside g v n in-it = if_pos (dec_lt n (volume_sectors g v)) in-it _ _

pub found_outside : (g : Geometry) (v : VolumeNumber) (n : ℕ) → volume_sectors g v ≤ n → found g v n ≡ None
unfolding found
found_outside g v n out = if_neg (dec_lt n (volume_sectors g v)) (λ in-it. omega arith) _ _

pub numbered_inside :
    (g : Geometry) (v : VolumeNumber) (c h s : ℕ) → InVolume g v c h s → numbered g v c h s ≡ Some (number_of g v c h s)
unfolding numbered
numbered_inside g v c h s in-it =
    if_pos (Dec.and (dec_lt c (C g)) (Dec.and (dec_lt h (N (volume g v))) (dec_lt s (S g)))) (in-it.cylinder, (in-it.head, in-it.sector)) _ _

pub numbered_outside :
    (g : Geometry) (v : VolumeNumber) (c h s : ℕ) → (InVolume g v c h s → ⊥) → numbered g v c h s ≡ None
unfolding numbered
numbered_outside g v c h s out =
    if_neg (Dec.and (dec_lt c (C g)) (Dec.and (dec_lt h (N (volume g v))) (dec_lt s (S g))))
    (λ in-it. out (record { cylinder = in-it.0; head = in-it.1.0; sector = in-it.1.1 })) _ _

pub placed_inside : (g : Geometry) (a : Address) → OnDrive g a → placed g a ≡ Some (place_of g a)
unfolding placed
placed_inside g a on = if_pos (on_drive? g a) on _ _

pub placed_outside : (g : Geometry) (a : Address) → (OnDrive g a → ⊥) → placed g a ≡ None
unfolding placed
placed_outside g a out = if_neg (on_drive? g a) out _ _

pub sector_at_inside :
    (g : Geometry) (p : ℕ) → p < drive_sectors g → sector_at g p ≡ Some (record { first = first_byte g p; mark = mark_byte g p })
unfolding sector_at
sector_at_inside g p in-it = if_pos (dec_lt p (drive_sectors g)) in-it _ _

pub sector_at_outside : (g : Geometry) (p : ℕ) → drive_sectors g ≤ p → sector_at g p ≡ None
unfolding sector_at
sector_at_outside g p out = if_neg (dec_lt p (drive_sectors g)) (λ in-it. omega arith) _ _

-- The other way: an answer tells which case it is.
pub at_found :
    (g : Geometry) (v : VolumeNumber) (n : ℕ) (a : Address) →
    found g v n ≡ Some a → (n < volume_sectors g v) × (a ≡ address_of g v n)
at_found g v n a is =
    by_cases (dec_lt n (volume_sectors g v)) (λ in-it. (in-it, cc (found_inside g v n in-it)))
    (λ out. absurd (never (cc (found_outside g v n (omega arith)))))

pub no_address : (g : Geometry) (v : VolumeNumber) (n : ℕ) → found g v n ≡ None → volume_sectors g v ≤ n
no_address g v n is =
    by_cases (dec_lt n (volume_sectors g v)) (λ in-it. absurd (never (cc (found_inside g v n in-it)))) (λ out. omega arith)

pub at_placed : (g : Geometry) (a : Address) (p : ℕ) → placed g a ≡ Some p → OnDrive g a × (p ≡ place_of g a)
at_placed g a p is =
    by_cases (on_drive? g a) (λ on. (on, cc (placed_inside g a on)))
    (λ out. absurd (never (cc (placed_outside g a out))))

pub no_place : (g : Geometry) (a : Address) → placed g a ≡ None → OnDrive g a → ⊥
no_place g a is on = never (cc (placed_inside g a on))

pub at_sector :
    (g : Geometry) (p : ℕ) (s : Sector) →
    sector_at g p ≡ Some s → (p < drive_sectors g) × ((s.first ≡ first_byte g p) × (s.mark ≡ mark_byte g p))
at_sector g p s is =
    by_cases (dec_lt p (drive_sectors g))
    (λ in-it.
    let same : s ≡ record { first = first_byte g p; mark = mark_byte g p } = cc (sector_at_inside g p in-it) in
    (in-it, (ap (λ (x : Sector). x.first) same, ap (λ (x : Sector). x.mark) same)))
    (λ out. absurd (never (cc (sector_at_outside g p (omega arith)))))

pub no_sector : (g : Geometry) (p : ℕ) → sector_at g p ≡ None → drive_sectors g ≤ p
no_sector g p is =
    by_cases (dec_lt p (drive_sectors g)) (λ in-it. absurd (never (cc (sector_at_inside g p in-it)))) (λ out. omega arith)
