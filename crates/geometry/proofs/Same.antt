-- Two geometries are equal where each of their numbers is, and whether they are is decided.
-- A record is its fields, so the equations of the fields are put together one after the other.
use mathlib.Core.Bool.{Bool-discrete}
use mathlib.Core.Logic.Dec
use mathlib.Core.Path.{◌≡◌, ◌∙◌, ap}
use native.Mathlib.Decide.{map_dec, ℕ_discrete}
use Rattle.geometry.specs.declared.Geometry.{Geometry}
use Rattle.geometry.specs.declared.Volume.{Volume}
use Rattle.geometry.specs.Drive.{B, C, N, S, goes_by_head, geometry_of, start, volume_of, with_increment}

pub volume_is : (v w : Volume) → start v ≡ start w → N v ≡ N w → v ≡ w
volume_is v w s n = ap (λ x. volume_of x (N v)) s ∙ ap (volume_of (start w)) n

pub geometry_is :
    (g h : Geometry) → C g ≡ C h → S g ≡ S h → B g ≡ B h → g.volume0 ≡ h.volume0 → g.volume1 ≡ h.volume1 → goes_by_head g ≡ goes_by_head h → g ≡ h
geometry_is g h c s b v w o = λ i. with_increment (o i) (geometry_of (c i) (s i) (b i) (v i) (w i))

volume_same? : (v w : Volume) → Dec (v ≡ w)
volume_same? v w =
    map_dec (λ d. volume_is v w d.0 d.1) (λ e. (ap start e, ap N e))
    (Dec.and (ℕ_discrete (start v) (start w)) (ℕ_discrete (N v) (N w)))

pub same? : (g h : Geometry) → Dec (g ≡ h)
same? g h =
    map_dec (λ d. geometry_is g h d.0.0 d.0.1.0 d.0.1.1 d.1.0 d.1.1.0 d.1.1.1)
    (λ e. ((ap C e, (ap S e, ap B e)), (ap (λ x. x.volume0) e, (ap (λ x. x.volume1) e, ap (λ x. goes_by_head x) e))))
    (Dec.and
    (Dec.and (ℕ_discrete (C g) (C h)) (Dec.and (ℕ_discrete (S g) (S h)) (ℕ_discrete (B g) (B h))))
    (Dec.and (volume_same? g.volume0 h.volume0)
    (Dec.and (volume_same? g.volume1 h.volume1) (Bool-discrete (goes_by_head g) (goes_by_head h)))))
