use Rattle.pks_terms.specs.Views.{literal_of}
use Rattle.pks_query_lookup.proofs.TableLaws.{adds_none, short_none, adds_one, short_one}
use Rattle.pks_query_lookup.proofs.table.add.Goals as goal

pub returns-in_err-put-in-Some-clause-short : goal.returns-in_err-put-in-Some-clause-short
returns-in_err-put-in-Some-clause-short c = short_one (literal_of c.args.l.now) c.in-Some.key c.in-Some.d c.in-Some.ensures.told c.in-Some.ensures.key

pub returns-in-None-clause-adds : goal.returns-in-None-clause-adds
returns-in-None-clause-adds c = adds_none c.args.table.now (literal_of c.args.l.now) c.in-None.ensures.told

pub returns-in-None-clause-short : goal.returns-in-None-clause-short
returns-in-None-clause-short c = short_none (literal_of c.args.l.now) c.in-None.ensures.told

pub returns-in_ok-put-in-Some-clause-adds : goal.returns-in_ok-put-in-Some-clause-adds
returns-in_ok-put-in-Some-clause-adds c = adds_one c.args.table.now c.put.new.table (literal_of c.args.l.now) c.in-Some.key c.in-Some.d c.in-Some.ensures.told c.in-Some.ensures.key c.in_ok-put-in-Some.ensures

pub returns-in_ok-put-in-Some-clause-short : goal.returns-in_ok-put-in-Some-clause-short
returns-in_ok-put-in-Some-clause-short c = short_one (literal_of c.args.l.now) c.in-Some.key c.in-Some.d c.in-Some.ensures.told c.in-Some.ensures.key
