-- How the logic stores a dimension: as a number.
use Rattle.std.specs.Prelude.{◌≡◌, ℕ, ◌+◌, ◌-◌, ◌==◌, nat_lt, if◌then◌else◌}
use Rattle.std.proofs.Common.{refl, ap, ◌∙◌, cond, arith}
use Rattle.std.proofs.lemmas.Bool.{lt-ltb}
use Rattle.std.specs.Coded.{Coded, code_by, coded_ℕ}
use Rattle.cloud_points.specs.declared.dims.Dim.{Dim}
use Rattle.cloud_points.specs.declared.dims.Dim.TheVariants.{X, Y, Z, Intensity, ReturnNumber, NumberOfReturns, ScanDirectionFlag, EdgeOfFlightLine, Classification, Synthetic, KeyPoint, Withheld, Overlap, ScanChannel, ScanAngleRank, UserData, PointSourceId, GpsTime, Red, Green, Blue, Infrared, Extra}

abbrev dim_number : Dim → ℕ
dim_number X = 0
dim_number Y = 1
dim_number Z = 2
dim_number Intensity = 3
dim_number ReturnNumber = 4
dim_number NumberOfReturns = 5
dim_number ScanDirectionFlag = 6
dim_number EdgeOfFlightLine = 7
dim_number Classification = 8
dim_number Synthetic = 9
dim_number KeyPoint = 10
dim_number Withheld = 11
dim_number Overlap = 12
dim_number ScanChannel = 13
dim_number ScanAngleRank = 14
dim_number UserData = 15
dim_number PointSourceId = 16
dim_number GpsTime = 17
dim_number Red = 18
dim_number Green = 19
dim_number Blue = 20
dim_number Infrared = 21
dim_number (Extra k) = 22 + k

abbrev standard_numbered : ℕ → Dim
standard_numbered n = if n == 0 then X
    else (if n == 1 then Y
    else (if n == 2 then Z
    else (if n == 3 then Intensity
    else (if n == 4 then ReturnNumber
    else (if n == 5 then NumberOfReturns
    else (if n == 6 then ScanDirectionFlag
    else (if n == 7 then EdgeOfFlightLine
    else (if n == 8 then Classification
    else (if n == 9 then Synthetic
    else (if n == 10 then KeyPoint
    else (if n == 11 then Withheld
    else (if n == 12 then Overlap
    else (if n == 13 then ScanChannel
    else (if n == 14 then ScanAngleRank
    else (if n == 15 then UserData
    else (if n == 16 then PointSourceId
    else (if n == 17 then GpsTime
    else (if n == 18 then Red
    else (if n == 19 then Green
    else (if n == 20 then Blue
    else Infrared))))))))))))))))))))

abbrev dim_numbered : ℕ → Dim
dim_numbered n = if nat_lt 21 n then Extra (n - 22) else standard_numbered n

pub dim_back : (d : Dim) → dim_numbered (dim_number d) ≡ d
dim_back X = refl
dim_back Y = refl
dim_back Z = refl
dim_back Intensity = refl
dim_back ReturnNumber = refl
dim_back NumberOfReturns = refl
dim_back ScanDirectionFlag = refl
dim_back EdgeOfFlightLine = refl
dim_back Classification = refl
dim_back Synthetic = refl
dim_back KeyPoint = refl
dim_back Withheld = refl
dim_back Overlap = refl
dim_back ScanChannel = refl
dim_back ScanAngleRank = refl
dim_back UserData = refl
dim_back PointSourceId = refl
dim_back GpsTime = refl
dim_back Red = refl
dim_back Green = refl
dim_back Blue = refl
dim_back Infrared = refl
dim_back (Extra k) = ap (λ b. cond b (Extra (22 + k - 22)) (standard_numbered (22 + k))) (lt-ltb 21 (22 + k) (omega arith)) ∙ ap Extra (let e : 22 + k - 22 ≡ k = omega arith in e)

abbrev pub dim_code : Coded Dim
dim_code = code_by ℕ coded_ℕ dim_number dim_numbered dim_back
