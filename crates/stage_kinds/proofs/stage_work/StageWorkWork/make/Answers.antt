use Rattle.stage_kinds.proofs.Telling.{gives_told, still_tells}
use Rattle.std.proofs.Common.{ap, ◌∙◌, option_map}
use Rattle.stage_kinds.specs.Leads.{extent_in}
use Rattle.stage_kinds.proofs.Leading.{reads-ahead}
use Rattle.stage_kinds.proofs.stage_work.StageWorkWork.make.Goals as goal

pub returns-in-Reader-clause-part : goal.returns-in-Reader-clause-part
returns-in-Reader-clause-part g c = λ tells calm.
    let r = c.in-Reader.reader in
    let next = c.next.new.self in
    rw c.in-Reader.is ((gives_told (g.S.Source.bytes r.source) (g.S.Source.bytes next.source) r.header next.header r.fields next.fields c.args.chunk r.progress next.progress c.next.result c.next.new.into.items c.next.ensures.bytes c.next.ensures.header c.next.ensures.fields c.next.ensures.told (rw c.in-Reader.is at tells) calm).part)

pub returns-in-Reader-clause-fault : goal.returns-in-Reader-clause-fault
returns-in-Reader-clause-fault g c = λ tells calm.
    let r = c.in-Reader.reader in
    let next = c.next.new.self in
    rw c.in-Reader.is ((gives_told (g.S.Source.bytes r.source) (g.S.Source.bytes next.source) r.header next.header r.fields next.fields c.args.chunk r.progress next.progress c.next.result c.next.new.into.items c.next.ensures.bytes c.next.ensures.header c.next.ensures.fields c.next.ensures.told (rw c.in-Reader.is at tells) calm).fault)

pub returns-in-Reader-clause-tells : goal.returns-in-Reader-clause-tells
returns-in-Reader-clause-tells g c = λ tells calm goes_on.
    let r = c.in-Reader.reader in
    let next = c.next.new.self in
    still_tells (g.S.Source.bytes r.source) (g.S.Source.bytes next.source) r.header next.header r.fields next.fields c.args.chunk r.progress next.progress c.next.result c.next.new.into.items c.next.ensures.bytes c.next.ensures.header c.next.ensures.fields c.next.ensures.told (rw c.in-Reader.is at tells) calm goes_on

pub returns-in-Reader-clause-ahead : goal.returns-in-Reader-clause-ahead
returns-in-Reader-clause-ahead g c =
    let r = c.in-Reader.reader in
    let next = c.next.new.self in
    rw c.in-Reader.is (reads-ahead (g.S.Source.bytes r.source) (g.S.Source.bytes next.source) r.header next.header r.fields next.fields (g.S.Source.reached r.source) (g.S.Source.reached next.source) c.args.chunk r.progress next.progress c.next.result c.next.new.into.items c.next.ensures.bytes c.next.ensures.header c.next.ensures.fields c.next.ensures.told c.next.ensures.moves c.next.ensures.reached)

pub returns-in-Reader-clause-extent : goal.returns-in-Reader-clause-extent
returns-in-Reader-clause-extent g c =
    let r = c.in-Reader.reader in
    let next = c.next.new.self in
    rw c.in-Reader.is (ap (λ h. option_map (extent_in h next.fields) (g.S.Source.bytes next.source)) c.next.ensures.header
    ∙ ap (λ fields. option_map (extent_in r.header fields) (g.S.Source.bytes next.source)) c.next.ensures.fields ∙ ap (option_map (extent_in r.header r.fields)) c.next.ensures.bytes)
