-- The dimensions of a point: how their values are counted, their ranges and their names.
use Rattle.std.specs.Prelude.{ℕ, ◌+◌, ◌*◌, ◌^◌, min, ℤ, pos, neg_ℤ, List, [], ◌∷◌, ◌++◌, codes}
use Rattle.cloud_points.specs.declared.dims.Kind.{Kind}
use Rattle.cloud_points.specs.declared.dims.Kind.TheVariants.{Fixed, Whole, Word}
use Rattle.cloud_points.specs.declared.dims.Dim.{Dim}
use Rattle.cloud_points.specs.declared.dims.Dim.TheVariants.{X, Y, Z, Intensity, ReturnNumber, NumberOfReturns, ScanDirectionFlag, EdgeOfFlightLine, Classification, Synthetic, KeyPoint, Withheld, Overlap, ScanChannel, ScanAngleRank, UserData, PointSourceId, GpsTime, Red, Green, Blue, Infrared, Extra}

-- the place of an extra dimension among the eight; a number beyond them stands for the last
abbrev pub extra_place : ℕ → ℕ
extra_place k = min k 7

-- the place of a dimension among all, from 0
abbrev pub number_of : Dim → ℕ
number_of X = 0
number_of Y = 1
number_of Z = 2
number_of Intensity = 3
number_of ReturnNumber = 4
number_of NumberOfReturns = 5
number_of ScanDirectionFlag = 6
number_of EdgeOfFlightLine = 7
number_of Classification = 8
number_of Synthetic = 9
number_of KeyPoint = 10
number_of Withheld = 11
number_of Overlap = 12
number_of ScanChannel = 13
number_of ScanAngleRank = 14
number_of UserData = 15
number_of PointSourceId = 16
number_of GpsTime = 17
number_of Red = 18
number_of Green = 19
number_of Blue = 20
number_of Infrared = 21
number_of (Extra k) = 22 + extra_place k

abbrev pub kind_of : Dim → Kind
kind_of X = Fixed
kind_of Y = Fixed
kind_of Z = Fixed
kind_of ScanAngleRank = Fixed
kind_of (Extra k) = Fixed
kind_of GpsTime = Word
kind_of _ = Whole

-- the greatest number of a dimension of whole numbers, and 0 for the others
abbrev pub greatest : Dim → ℕ
greatest Intensity = 65535
greatest ReturnNumber = 15
greatest NumberOfReturns = 15
greatest ScanDirectionFlag = 1
greatest EdgeOfFlightLine = 1
greatest Classification = 255
greatest Synthetic = 1
greatest KeyPoint = 1
greatest Withheld = 1
greatest Overlap = 1
greatest ScanChannel = 3
greatest UserData = 255
greatest PointSourceId = 65535
greatest Red = 65535
greatest Green = 65535
greatest Blue = 65535
greatest Infrared = 65535
greatest _ = 0

-- the least and the greatest number of nanounits of a fixed dimension, and 0 for the others
abbrev pub low_of : Dim → ℤ
low_of X = neg_ℤ (pos (4 * 10 ^ 18))
low_of Y = neg_ℤ (pos (4 * 10 ^ 18))
low_of Z = neg_ℤ (pos (4 * 10 ^ 18))
low_of (Extra k) = neg_ℤ (pos (4 * 10 ^ 18))
low_of ScanAngleRank = neg_ℤ (pos 196608000000)
low_of _ = pos 0

abbrev pub high_of : Dim → ℤ
high_of X = pos (4 * 10 ^ 18)
high_of Y = pos (4 * 10 ^ 18)
high_of Z = pos (4 * 10 ^ 18)
high_of (Extra k) = pos (4 * 10 ^ 18)
high_of ScanAngleRank = pos 196602000000
high_of _ = pos 0

-- the name; that of an extra dimension ends with its place as a digit
abbrev pub name_of : Dim → List ℕ
name_of X = codes "X"
name_of Y = codes "Y"
name_of Z = codes "Z"
name_of Intensity = codes "Intensity"
name_of ReturnNumber = codes "ReturnNumber"
name_of NumberOfReturns = codes "NumberOfReturns"
name_of ScanDirectionFlag = codes "ScanDirectionFlag"
name_of EdgeOfFlightLine = codes "EdgeOfFlightLine"
name_of Classification = codes "Classification"
name_of Synthetic = codes "Synthetic"
name_of KeyPoint = codes "KeyPoint"
name_of Withheld = codes "Withheld"
name_of Overlap = codes "Overlap"
name_of ScanChannel = codes "ScanChannel"
name_of ScanAngleRank = codes "ScanAngleRank"
name_of UserData = codes "UserData"
name_of PointSourceId = codes "PointSourceId"
name_of GpsTime = codes "GpsTime"
name_of Red = codes "Red"
name_of Green = codes "Green"
name_of Blue = codes "Blue"
name_of Infrared = codes "Infrared"
name_of (Extra k) = codes "Extra" ++ (48 + extra_place k) ∷ []
