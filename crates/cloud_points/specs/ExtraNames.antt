-- Names of dimensions, without regard to the case of ASCII letters, and a list of names of extra dimensions.
use Rattle.std.specs.Prelude.{ℕ, ◌<◌, ◌≡◌, Bool, true, false, List, [], ◌∷◌, ◌++◌, length, Option, None, option_map, is_some, if◌then◌else◌, position, All, AllPairs, slice_index_or, find, ⊤}
use Rattle.std.specs.Option.{option_or}
use Rattle.std.specs.Str.{bytes_eq, str_to_ascii_lowercase}
use Rattle.cloud_points.specs.Dims.{name_of}
use Rattle.cloud_points.specs.declared.dims.Dim.{Dim}
use Rattle.cloud_points.specs.declared.dims.Dim.TheVariants.{X, Y, Z, Intensity, ReturnNumber, NumberOfReturns, ScanDirectionFlag, EdgeOfFlightLine, Classification, Synthetic, KeyPoint, Withheld, Overlap, ScanChannel, ScanAngleRank, UserData, PointSourceId, GpsTime, Red, Green, Blue, Infrared, Extra}

abbrev pub same_name : List ℕ → List ℕ → Bool
same_name a b = bytes_eq (str_to_ascii_lowercase a) (str_to_ascii_lowercase b)

-- no two names are one
abbrev pub DifferentNames : List (List ℕ) → Type 0
DifferentNames names = AllPairs (λ earlier later. same_name later earlier ≡ false) names

-- the place of a name, from 0
abbrev pub place_in : List ℕ → List (List ℕ) → Option ℕ
place_in name names = position (same_name name) names

abbrev pub standard_dims : List Dim
standard_dims = X ∷ Y ∷ Z ∷ Intensity ∷ ReturnNumber ∷ NumberOfReturns ∷ ScanDirectionFlag ∷ EdgeOfFlightLine ∷ Classification ∷ Synthetic ∷ KeyPoint ∷ Withheld ∷ Overlap ∷ ScanChannel ∷ ScanAngleRank ∷ UserData ∷ PointSourceId ∷ GpsTime ∷ Red ∷ Green ∷ Blue ∷ Infrared ∷ []

-- the dimension of the standard with a name
abbrev pub dim_named : List ℕ → Option Dim
dim_named name = find (λ dim. same_name name (name_of dim)) standard_dims

-- no name is one of the standard's
abbrev pub NoneStandard : List (List ℕ) → Type 0
NoneStandard names = All (λ name. dim_named name ≡ None) names

-- the dimension with a name: the standard's, else an extra one
abbrev pub dim_in : List ℕ → List (List ℕ) → Option Dim
dim_in name names = option_or (dim_named name) (option_map Extra (place_in name names))

-- whether a dimension is one of the standard's
abbrev pub is_standard : Dim → Bool
is_standard (Extra place) = false
is_standard _ = true

-- whether a dimension has a name
abbrev pub IsNamed : Dim → List (List ℕ) → Type 0
IsNamed (Extra place) names = place < length names
IsNamed _ names = ⊤

-- its name: the standard's, or the one that was added at its place
abbrev pub name_in : Dim → List (List ℕ) → List ℕ
name_in (Extra place) names = slice_index_or names place []
name_in dim names = name_of dim

-- the names with this one among them: where it stands already, else at the end
abbrev pub added : List ℕ → List (List ℕ) → List (List ℕ)
added name names = if is_some (place_in name names) then names else names ++ name ∷ []
