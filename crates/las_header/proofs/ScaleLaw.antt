-- A scale is read exactly where its word is.
use Rattle.std.proofs.Common.{◌≡◌, ℕ, ◌^◌, ℤ, [], ◌∷◌, arith, sym, refl, subst, ap, ◌∙◌, inl, inr, Ok, Err, Some, None, Option, Result, ltb, ◌&&◌}
use Rattle.std.proofs.lemmas.Bool.{cases_Bool, cond-true, cond-false}
use Rattle.std.proofs.lemmas.Int.{ints}
use Rattle.decimal_coords.specs.declared.grid.Scale.{Scale}
use Rattle.ieee_words.specs.NearWord.{near_word}
use Rattle.ieee_words.specs.Scale.{IsScaleOf}
use Rattle.ieee_words.specs.DecimalOfWord.{scale_of_word}
use Rattle.ieee_words.proofs.NearWords.{is_near_word}
use Rattle.ieee_words.proofs.ScaleWords.{one_scale}
use Rattle.ieee_words.proofs.WordDecimals.{scale_of_word_is}
use Rattle.las_header.specs.declared.faults.HeaderAxis.{HeaderAxis}
use Rattle.las_header.specs.declared.faults.HeaderAxis.TheVariants.{X, Y, Z}
use Rattle.las_header.specs.declared.faults.HeaderFault.{HeaderFault}
use Rattle.las_header.specs.declared.faults.HeaderFault.TheVariants.{ScaleNotPositive, ScaleNotDecimal}
use Rattle.las_header.specs.declared.faults.ScaleFault.{ScaleFault}
use Rattle.las_header.specs.declared.faults.ScaleFault.TheVariants.{NotPositive, NotDecimal}
use Rattle.byte_numbers.specs.Bytes.{number_at}
use Rattle.las_header.specs.Headers.{scale_on, scales_of}
use Rattle.las_header.specs.ScaleWords.{scale_read, decimal_scale}
use Rattle.las_header.specs.ScaleLaw.{IsTheScaleOf, AreTheScalesIn, ScalesHaveTheirWords}
use Rattle.las_header.specs.Steps.{◌>>=◌}
use Rattle.las_header.proofs.ScaleLemmas.{scale_of_its_nano}
use Rattle.las_header.proofs.Words.{scale_is_read}

-- what is read has its word
decimal_is : (w : ℕ) (s : Scale) (o : Option ℤ) → scale_of_word w ≡ o → decimal_scale o ≡ Ok s → IsScaleOf w s.nano
decimal_is w s None e f = absurd (let g : Err NotDecimal ≡ Ok s = f in cc)
decimal_is w s (Some nano) e f =
    let is = scale_of_word_is w nano e in
    let own : Scale = record { nano = nano; low = is.low; high = is.high } in
    let g : decimal_scale (Some nano) ≡ Ok own = rw (scale_of_its_nano own nano refl) refl in
    let same : Ok own ≡ Ok s = sym g ∙ f in
    let q : own ≡ s = cc in
    let r : nano ≡ s.nano = ap (λ (x : Scale). x.nano) q in
    subst (λ (n : ℤ). IsScaleOf w n) r is

read_is : (w : ℕ) (s : Scale) → scale_read w ≡ Ok s → IsScaleOf w s.nano
read_is w s e = elim (cases_Bool (ltb 0 w && ltb w (2 ^ 63))) [
  | inl t ↦ decimal_is w s (scale_of_word w) refl (sym (cond-true (ltb 0 w && ltb w (2 ^ 63)) _ _ t) ∙ e)
  | inr t ↦ absurd (let f : Err NotPositive ≡ Ok s = sym (cond-false (ltb 0 w && ltb w (2 ^ 63)) _ _ t) ∙ e in cc)
]

-- and what has the word is read
is_read : (w : ℕ) (s : Scale) → IsScaleOf w s.nano → scale_read w ≡ Ok s
is_read w s is =
    let e : w ≡ near_word s.nano 9 = is_near_word s.nano 9 w (omega arith) (omega (arith, ints, s.low, s.high)) is.near in
    ap scale_read e ∙ scale_is_read s

the_one : (w : ℕ) (s : Scale) → scale_read w ≡ Ok s → IsTheScaleOf w s.nano
the_one w s e = let is = read_is w s e in record { scale = is; only = λ n other. one_scale w n s.nano other is }

abbrev header_scale : Result Scale HeaderFault → Result Scale HeaderFault
header_scale r = r

abbrev read_scale : Result Scale ScaleFault → Result Scale ScaleFault
read_scale r = r

-- of three axes
on_axis : (axis : HeaderAxis) (r : Result Scale ScaleFault) (s : Scale) → scale_on axis r ≡ Ok s → r ≡ Ok s
on_axis axis (Ok t) s e =
    let h : header_scale (Ok t) ≡ header_scale (Ok s) = e in
    let q : t ≡ s = cc in ap (λ (x : Scale). read_scale (Ok x)) q
on_axis axis (Err NotPositive) s e = let h : header_scale (Err (ScaleNotPositive axis)) ≡ header_scale (Ok s) = e in absurd (cc)
on_axis axis (Err NotDecimal) s e = let h : header_scale (Err (ScaleNotDecimal axis)) ≡ header_scale (Ok s) = e in absurd (cc)

-- a chain that ends well had this first link
first : {A B : Type 0} (r : Result A HeaderFault) (next : A → Result B HeaderFault) (b : B) → r >>= next ≡ Ok b → (a : A) × (r ≡ Ok a) × (next a ≡ Ok b)
first (Ok a) next b e = (a, refl, e)
first (Err f) next b e = absurd (let g : Err f ≡ Ok b = e in cc)

pub scales_have_their_words : ScalesHaveTheirWords
unfolding scales_of
scales_have_their_words bytes x y z = (there, back)
  where
    there : scales_of bytes ≡ Ok (x ∷ y ∷ z ∷ []) → AreTheScalesIn bytes x y z
    there e =
        let a = first (scale_on X (scale_read (number_at 131 8 bytes))) _ (x ∷ y ∷ z ∷ []) e in
        let b = first (scale_on Y (scale_read (number_at 139 8 bytes))) _ (x ∷ y ∷ z ∷ []) a.2 in
        let c = first (scale_on Z (scale_read (number_at 147 8 bytes))) _ (x ∷ y ∷ z ∷ []) b.2 in
        let all : Ok (a.0 ∷ b.0 ∷ c.0 ∷ []) ≡ Ok (x ∷ y ∷ z ∷ []) = c.2 in
        let ax : a.0 ≡ x = cc in
        let by : b.0 ≡ y = cc in
        let cz : c.0 ≡ z = cc in (
          the_one (number_at 131 8 bytes) x (on_axis X _ x (a.1 ∙ ap Ok ax)),
          the_one (number_at 139 8 bytes) y (on_axis Y _ y (b.1 ∙ ap Ok by)),
          the_one (number_at 147 8 bytes) z (on_axis Z _ z (c.1 ∙ ap Ok cz)),
        )

    back : AreTheScalesIn bytes x y z → scales_of bytes ≡ Ok (x ∷ y ∷ z ∷ [])
    back t =
        let a = is_read (number_at 131 8 bytes) x t.0.scale in
        let b = is_read (number_at 139 8 bytes) y t.1.scale in
        let c = is_read (number_at 147 8 bytes) z t.2.scale in
        λ i. scale_on X (a i) >>= (λ x. scale_on Y (b i) >>= (λ y. scale_on Z (c i) >>= (λ z. Ok (x ∷ y ∷ z ∷ []))))
