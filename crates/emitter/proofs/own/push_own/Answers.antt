-- `emitter::own::push_own` meets its contract: the kind says which transitions the word has.
use Rattle.words.specs.declared.word.Kind.TheVariants.{Symbol, Union, Product, Closure, Anything}
use Rattle.words.proofs.DecodedLaws.{told-kind}
use Rattle.automaton.specs.Numbering.{full_port}
use Rattle.emitter.proofs.OwnKindLaws.{own-symbol, own-union, own-product, own-closure, own-anything}
use Rattle.emitter.proofs.OwnKindLaws.{own-other, transitions-written, no-transitions-written}
use Rattle.emitter.proofs.own.push_own.Goals as goal

pub returns-in-Symbol-clause-written : goal.returns-in-Symbol-clause-written
returns-in-Symbol-clause-written c =
    let a = c.args in
    let kind = told-kind _ _ c.kind_of-kind.ensures Symbol c.in-Symbol.is in
    transitions-written _ _ _ _ _ _ _
    (own-symbol a.alphabet.now a.w (full_port a.word.now.constants.now a.word.now.exit) a.word.now.constants.now a.word.now.ports.now kind)
    c.push_symbol.ensures.written

pub returns-in-Union-clause-written : goal.returns-in-Union-clause-written
returns-in-Union-clause-written c =
    let a = c.args in
    let p = c.requires.symbols_emittable.1 in
    let kind = told-kind _ _ c.kind_of-kind.ensures Union c.in-Union.is in
    transitions-written _ _ _ _ _ _ _
    (own-union a.alphabet.now a.w (full_port a.word.now.constants.now a.word.now.exit) a.word.now.constants.now a.word.now.ports.now (p.union kind) kind)
    c.push_union.ensures.written

pub returns-in-Product-clause-written : goal.returns-in-Product-clause-written
returns-in-Product-clause-written c =
    let a = c.args in
    let p = c.requires.symbols_emittable.1 in
    let kind = told-kind _ _ c.kind_of-kind.ensures Product c.in-Product.is in
    transitions-written _ _ _ _ _ _ _
    (own-product a.alphabet.now a.w (full_port a.word.now.constants.now a.word.now.exit) a.word.now.constants.now a.word.now.ports.now
    (p.product kind).0 kind)
    c.push_product.ensures.written

pub returns-in-Closure-clause-written : goal.returns-in-Closure-clause-written
returns-in-Closure-clause-written c =
    let a = c.args in
    let p = c.requires.symbols_emittable.1 in
    let kind = told-kind _ _ c.kind_of-kind.ensures Closure c.in-Closure.is in
    transitions-written _ _ _ _ _ _ _
    (own-closure a.alphabet.now a.w (full_port a.word.now.constants.now a.word.now.exit) a.word.now.constants.now a.word.now.ports.now
    (p.closure kind).0 kind)
    c.push_closure.ensures.written

pub returns-in-Anything-clause-written : goal.returns-in-Anything-clause-written
returns-in-Anything-clause-written c =
    let a = c.args in
    let kind = told-kind _ _ c.kind_of-kind.ensures Anything c.in-Anything.is in
    transitions-written _ _ _ _ _ _ _
    (own-anything a.alphabet.now a.w (full_port a.word.now.constants.now a.word.now.exit) a.word.now.constants.now a.word.now.ports.now kind)
    c.push_anything.ensures.written

pub returns-in_default-clause-written : goal.returns-in_default-clause-written
returns-in_default-clause-written c =
    let a = c.args in
    no-transitions-written _ _ _ _
    (own-other a.alphabet.now a.w (full_port a.word.now.constants.now a.word.now.exit) a.word.now.constants.now a.word.now.ports.now
    c.kind_of-kind.result c.kind_of-kind.ensures (c.in_default.not-Symbol, (c.in_default.not-Union, (c.in_default.not-Product, (c.in_default.not-Closure, (c.in_default.not-Anything, tt))))))
