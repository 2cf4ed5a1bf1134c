use Rattle.std.proofs.Common.{◌≡◌, ◌-◌, ◌∙◌, ap, length, drop}
use Rattle.std.specs.Str.{str_to_ascii_lowercase, bytes_eq}
use Rattle.std.proofs.lemmas.List.{take_rest}
use Rattle.pipeline_json.proofs.Members.{is_bytes_eq}
use Rattle.pipeline_json.proofs.kinds.has_ending.Goals as goal

pub returns : goal.returns
returns c =
    let name : c.as_bytes-bytes.result.now ≡ c.args.name.now = c.as_bytes-bytes.ensures.value in
    let ending : c.as_bytes.result.now ≡ c.args.ending.now = c.as_bytes.ensures.value in
    let at : c.saturating_sub.result ≡ length c.args.name.now - 4 = c.saturating_sub.ensures ∙ ap (λ xs. length xs - 4) name in
    is_bytes_eq c.eq_ignore_ascii_case.result _ _ c.eq_ignore_ascii_case.ensures.test
    ∙ ap (λ xs. bytes_eq (str_to_ascii_lowercase xs) (str_to_ascii_lowercase c.as_bytes.result.now)) (take_rest c.as_bytes-bytes.result.now c.saturating_sub.result)
    ∙ ap (λ xs. bytes_eq (str_to_ascii_lowercase (drop c.saturating_sub.result xs)) (str_to_ascii_lowercase c.as_bytes.result.now)) name
    ∙ ap (λ n. bytes_eq (str_to_ascii_lowercase (drop n c.args.name.now)) (str_to_ascii_lowercase c.as_bytes.result.now)) at
    ∙ ap (λ xs. bytes_eq (str_to_ascii_lowercase (drop (length c.args.name.now - 4) c.args.name.now)) (str_to_ascii_lowercase xs)) ending
