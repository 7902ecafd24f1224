-- What the unit answers, from what the geometry answered, by cases.
-- An answer of the geometry tells whether the sector is on the drive, and that picks the side of each definition.
use Rattle.spares.specs.declared.Track.{Track}
use Rattle.std.proofs.Common.{None, Option, Some}
use Prim.Native.Nat.{ℕ, ◌-◌, ◌<◌, ◌≤◌}
use mathlib.Core.Logic.{by_cases, if_neg, if_pos}
use mathlib.Core.Path.{◌≡◌, sym, ap, subst, ◌∙◌}
use native.Mathlib.Decide.{dec_lt}
use native.Mathlib.Omega.{arith}
use Rattle.geometry.specs.declared.Address.{Address}
use Rattle.geometry.specs.declared.Geometry.{Geometry}
use Rattle.geometry.specs.declared.VolumeNumber.{VolumeNumber}
use Rattle.geometry.specs.Drive.{S, volume_sectors}
use Rattle.geometry.specs.Sectors.{OnDrive, address}
use Rattle.geometry.proofs.Answers.{at_found, at_placed, no_address, no_place}
use Rattle.geometry.proofs.Laws.{address_on_drive}
use Rattle.wire.proofs.Promises.{never}
use Rattle.unit.specs.declared.Spot.{Spot}
use Rattle.unit.specs.Landing.{landed, onto, spot_at, spot_of, track_of}
use Rattle.unit.specs.Landing.Behind.{landed_is, spot_at_is, spot_of_is, track_of_is}
use Rattle.unit.specs.Standing.{UnitRecord, geometry, pairs, table}
use Rattle.unit.proofs.Laws.{landed_on_drive}
use Rattle.spares.specs.Table.{served_at}
use Rattle.unit.specs.Answers.{landing, landing_at, spotted, track_landing}
use Rattle.geometry.specs.Answers.{found, on_drive?, placed}

pub spotted_inside : (g : Geometry) (a : Address) → OnDrive g a → spotted g a ≡ Some (spot_at g a)
unfolding spotted
spotted_inside g a on = if_pos (on_drive? g a) on _ _

pub landing_at_inside : (u : UnitRecord) (a : Address) → OnDrive (geometry u) a → landing_at u a ≡ Some (spot_at (geometry u) (landed u a))
unfolding landing_at
landing_at_inside u a on = if_pos (on_drive? (geometry u) a) on _ _

pub landing_inside : (u : UnitRecord) (v : VolumeNumber) (n : ℕ) → n < volume_sectors (geometry u) v → landing u v n ≡ Some (spot_of u v n)
unfolding landing
landing_inside u v n inside = if_pos (dec_lt n (volume_sectors (geometry u) v)) inside _ _

pub landing_outside : (u : UnitRecord) (v : VolumeNumber) (n : ℕ) → volume_sectors (geometry u) v ≤ n → landing u v n ≡ None
unfolding landing
landing_outside u v n out = if_neg (dec_lt n (volume_sectors (geometry u) v)) (λ inside. omega arith) _ _

pub track_landing_is : (u : UnitRecord) (c h : ℕ) → track_landing u c h ≡ landing_at u (address c h 0)
unfolding landing_at track_landing
track_landing_is u c h = rw track_of_is

-- ---- from the geometry's answers

pub at_its_spot :
    (g : Geometry) (a : Address) (p : ℕ) →
    placed g a ≡ Some p →
    Some (record { cylinder = a.cylinder; place = p; rest = S g - a.sector }) ≡ spotted g a
at_its_spot g a p is =
    let at = at_placed g a p is in
    rw (spotted_inside g a at.0, spot_at_is, at.1)

pub at_no_spot : (g : Geometry) (a : Address) → placed g a ≡ None → None ≡ spotted g a
unfolding spotted
at_no_spot g a is = sym (if_neg (on_drive? g a) (no_place g a is) _ _)

-- ---- from an address's own spot to where it lands

pub own_spot : (g : Geometry) (a : Address) (s : Spot) → spotted g a ≡ Some s → OnDrive g a × (s ≡ spot_at g a)
unfolding spotted
own_spot g a s is =
    by_cases (on_drive? g a) (λ on. (on, cc (spotted_inside g a on)))
    (λ out. absurd (never (cc (if_neg (on_drive? g a) out (Some (spot_at g a)) None))))

-- What serves the track of an address that the drive has tells where it lands, and that is on the drive.
module _ (u : UnitRecord) (a : Address) (on : OnDrive (geometry u) a) {s : Option Track}
    (is : served_at (geometry u) (pairs u) (table u) a.cylinder a.head ≡ s) where
  lands_onto : landed u a ≡ onto s a
  lands_onto = landed_is u a ∙ ap (λ (x : Option Track). onto x a) is

  pub served_spot : Some (spot_at (geometry u) (onto s a)) ≡ landing_at u a
  served_spot = rw (landing_at_inside u a on, lands_onto)

  pub served_spotted : spotted (geometry u) (onto s a) ≡ landing_at u a
  served_spotted = spotted_inside (geometry u) (onto s a) (subst (OnDrive (geometry u)) lands_onto (landed_on_drive u a on)) ∙ served_spot

pub nowhere : (u : UnitRecord) (a : Address) → spotted (geometry u) a ≡ None → None ≡ landing_at u a
unfolding landing_at
nowhere u a is =
    sym (if_neg (on_drive? (geometry u) a) (λ on. never (cc (spotted_inside (geometry u) a on))) _ _)

pub found_lands :
    (u : UnitRecord) (v : VolumeNumber) (n : ℕ) (a : Address) →
    found (geometry u) v n ≡ Some a → landing_at u a ≡ landing u v n
found_lands u v n a is =
    let at = at_found (geometry u) v n a is in
    rw (
      at.1,
      landing_at_inside u _ (address_on_drive (geometry u) v n at.0),
      landing_inside u v n at.0,
      spot_of_is,
    )

pub not_found_lands :
    (u : UnitRecord) (v : VolumeNumber) (n : ℕ) → found (geometry u) v n ≡ None → None ≡ landing u v n
not_found_lands u v n is = sym (landing_outside u v n (no_address (geometry u) v n is))

-- ---- the other way: an answer tells which case it is

pub at_landing :
    (u : UnitRecord) (v : VolumeNumber) (n : ℕ) (s : Spot) →
    landing u v n ≡ Some s → (n < volume_sectors (geometry u) v) × (s ≡ spot_of u v n)
at_landing u v n s is =
    by_cases (dec_lt n (volume_sectors (geometry u) v)) (λ inside. (inside, cc (landing_inside u v n inside)))
    (λ out. absurd (never (cc (landing_outside u v n (omega arith)))))

pub no_landing : (u : UnitRecord) (v : VolumeNumber) (n : ℕ) → landing u v n ≡ None → volume_sectors (geometry u) v ≤ n
no_landing u v n is =
    by_cases (dec_lt n (volume_sectors (geometry u) v)) (λ inside. absurd (never (cc (landing_inside u v n inside))))
    (λ out. omega arith)

pub at_address :
    (u : UnitRecord) (a : Address) (s : Spot) →
    landing_at u a ≡ Some s → OnDrive (geometry u) a × (s ≡ spot_at (geometry u) (landed u a))
unfolding landing_at
at_address u a s is =
    by_cases (on_drive? (geometry u) a) (λ on. (on, cc (landing_at_inside u a on)))
    (λ out. absurd (never (cc (if_neg (on_drive? (geometry u) a) out (Some (spot_at (geometry u) (landed u a))) None))))

pub at_track :
    (u : UnitRecord) (c h : ℕ) (s : Spot) →
    track_landing u c h ≡ Some s → OnDrive (geometry u) (address c h 0) × (s ≡ track_of u c h)
unfolding track_landing
at_track u c h s is =
    by_cases (on_drive? (geometry u) (address c h 0))
    (λ on. (on, cc (if_pos (on_drive? (geometry u) (address c h 0)) on (Some (track_of u c h)) None)))
    (λ out. absurd (never (cc (if_neg (on_drive? (geometry u) (address c h 0)) out (Some (track_of u c h)) None))))

pub no_track : (u : UnitRecord) (c h : ℕ) → track_landing u c h ≡ None → OnDrive (geometry u) (address c h 0) → ⊥
unfolding track_landing
no_track u c h is on =
    never (cc (if_pos (on_drive? (geometry u) (address c h 0)) on (Some (track_of u c h)) None))
