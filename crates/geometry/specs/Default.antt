-- The default geometry, which "a caller may ask for"; no unit starts with it (01, Geometry).
use Rattle.geometry.specs.declared.Geometry.{Geometry}
use Rattle.geometry.specs.Drive.{geometry_of, volume_of}

-- "its default (Table 11 of source document 000)": 644 cylinders of 64 sectors of 512 bytes, heads 0 to 9 in volume 0, and no volume 1; among its
-- attributes, 05, is increment by head (02, K4).
abbrev pub table11 : Geometry
table11 = geometry_of 644 64 512 (volume_of 0 10) (volume_of 0 0)
