-- Whether a record counts as initialized, and whether two are the same, by value alone or with their tables, is decided, so that definitions
-- elsewhere can go by cases on it. Each of the parts is.
use mathlib.Core.Bool.{true, Bool-discrete}
use mathlib.Core.List.{List-discrete}
use mathlib.Core.Logic.Dec
use mathlib.Core.Path.{◌≡◌, ap}
use native.Mathlib.Decide.{dec_lt, map_dec, ℕ_discrete}
use Rattle.geometry.specs.Drive.{C}
use Rattle.geometry.proofs.Decided.{within?}
use Rattle.geometry.proofs.Same as Geometries
use Rattle.spares.proofs.Decided.{good?}
use Rattle.unit.specs.declared.Record.{Record}
use Rattle.unit.specs.Standing.{CountsAsInitialized, UnitRecord, by_value, cylinder, geometry, value_of, initialized, pairs, table, unit_of}
use Rattle.unit.proofs.Holders.{holders_differ}
use Rattle.unit.specs.HolderNumbers.{holder_number}

pub counts? : (u : UnitRecord) → Dec (CountsAsInitialized u)
counts? u =
    map_dec (λ d. record { said = d.0; within = d.1.0; cylinder = d.1.1.0; good = d.1.1.1 })
    (λ w. (w.said, (w.within, (w.cylinder, w.good))))
    (Dec.and (Bool-discrete (initialized u) true)
    (Dec.and (within? (geometry u)) (Dec.and (dec_lt (cylinder u) (C (geometry u))) (good? (geometry u) (pairs u) (table u)))))

pub record_is :
    (u v : Record) → u.initialized ≡ v.initialized → u.geometry ≡ v.geometry → u.cylinder ≡ v.cylinder → u.pairs ≡ v.pairs →
    u.holder ≡ v.holder → u ≡ v
record_is u v i g c n h = λ k. value_of (i k) (g k) (c k) (n k) (h k)

pub same? : (u v : Record) → Dec (u ≡ v)
same? u v =
    map_dec (λ d. record_is u v d.0 d.1.0 d.1.1.0 d.1.1.1.0 d.1.1.1.1)
    (λ e. (ap (λ x. x.initialized) e, (ap (λ x. x.geometry) e, (ap (λ x. x.cylinder) e, (ap (λ x. x.pairs) e, ap (λ x. x.holder) e)))))
    (Dec.and (Bool-discrete u.initialized v.initialized)
    (Dec.and (Geometries.same? u.geometry v.geometry)
    (Dec.and (ℕ_discrete u.cylinder v.cylinder)
    (Dec.and (ℕ_discrete u.pairs v.pairs)
    (map_dec (holders_differ u.holder v.holder) (ap holder_number) (ℕ_discrete (holder_number u.holder) (holder_number v.holder)))))))

pub same_with_table? : (u v : UnitRecord) → Dec (u ≡ v)
same_with_table? u v =
    map_dec (λ p i. unit_of (p.0 i) (p.1 i)) (λ p. (ap (λ (x : UnitRecord). by_value x) p, ap (λ (x : UnitRecord). table x) p))
    (Dec.and (same? (by_value u) (by_value v)) (List-discrete ℕ_discrete (table u) (table v)))
