-- Which physical addresses a volume has, and the order of its sectors (01, Geometry; 02, K4): which address follows an address. That the numbers go the same way
-- is a law (proofs/Laws).
use Rattle.std.specs.Prelude.{ℕ, ◌+◌, ◌-◌, ◌<◌}
use Rattle.std.proofs.Math.Logic.{ite}
use Rattle.std.proofs.Math.Decide.{dec_lt}
use Rattle.geometry.specs.declared.Address.{Address}
use Rattle.geometry.specs.declared.Geometry.{Geometry}
use Rattle.geometry.specs.declared.VolumeNumber.{VolumeNumber}
use Rattle.geometry.specs.Drive.{C, N, S, goes_by_head, start, volume}
use Rattle.geometry.specs.Orders.{ordered}
use Rattle.geometry.specs.Sectors.{address, tracks_each}

-- The address that follows an address of a volume, heads counted over the whole drive: "by sector, head, cylinder" (01), or by sector, cylinder, head (02,
-- K4). After the volume's last there is none: in the one order this then names cylinder C, which the drive has not, and in the other the head after the
-- volume's last, which may be the other volume's.
unfoldable pub next : Geometry → VolumeNumber → Address → Address
next g v a =
    let first = start (volume g v) in
    let steps = ordered (goes_by_head g) (a.cylinder, a.head - first) in
    let after = ordered (goes_by_head g) (ite (dec_lt (steps.1 + 1) (tracks_each g v)) (steps.0, steps.1 + 1) (steps.0 + 1, 0)) in
    ite (dec_lt (a.sector + 1) (S g)) (address a.cylinder a.head (a.sector + 1)) (address after.0 (first + after.1) 0)

-- A physical address, its head counted from the start head, that a volume has.
pub record InVolume (g : Geometry) (v : VolumeNumber) (c h s : ℕ) : Type 0 where
  pub cylinder : c < C g
  pub head : h < N (volume g v)
  pub sector : s < S g
