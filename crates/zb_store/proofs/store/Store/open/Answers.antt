use Rattle.std.proofs.Common.{Ok, Err}
use Rattle.zb_store.specs.Store.{Place, place_of}
use Rattle.zb_store.proofs.Placed.{same_place}
use Rattle.zb_store.proofs.Laying.{open_moments, open_ready, open_through, open_stopped}
use Rattle.zb_store.proofs.store.Store.open.Goals as goal

pub returns-in-Ok-clause-moments : goal.returns-in-Ok-clause-moments
returns-in-Ok-clause-moments g c all told =
    let v0 = g.D.Disk.state c.args.disk.now in
    let v1 = g.D.Disk.state c.read_standing.new.disk in
    let v2 = g.D.Disk.state c.settle.new.disk in
    let still = c.in_ok-contents.ensures.reads.still in
    let reads = g.met.D.Disk.reads_image c.args.disk.now in
    let only_now = g.met.D.Disk.only_now c.args.disk.now in
    let f = c.in_ok-contents.contents.found in
    let r = c.in_ok-contents.ensures.read told in
    open_moments g.D.Disk.tells v0 v1 v2 still reads only_now (Ok c.in-Ok.field-0) r.0 f.second f.other_open
    c.in-Ok.ensures r.1.stands r.1.second r.1.other all told

pub returns-in-Ok-clause-ready : goal.returns-in-Ok-clause-ready
returns-in-Ok-clause-ready g c all told s is =
    let v0 = g.D.Disk.state c.args.disk.now in
    let v1 = g.D.Disk.state c.read_standing.new.disk in
    let v2 = g.D.Disk.state c.settle.new.disk in
    let still = c.in_ok-contents.ensures.reads.still in
    let reads = g.met.D.Disk.reads_image c.args.disk.now in
    let only_now = g.met.D.Disk.only_now c.args.disk.now in
    let f = c.in_ok-contents.contents.found in
    let contents = c.in_ok-contents.contents in
    let r = c.in_ok-contents.ensures.read told in
    let store : Place =
    record { second = f.second; generation = f.generation; end = contents.end; entries = contents.entries } in
    let place = same_place store (place_of r.0) r.1.second r.1.generation r.1.end r.1.entries in
    open_ready g.D.Disk.tells v0 v1 v2 still reads only_now c.in-Ok.field-0 r.0 s f.second f.other_open store
    c.in-Ok.ensures r.1.stands r.1.second r.1.other place all told is

pub returns-in-Ok-clause-through : goal.returns-in-Ok-clause-through
returns-in-Ok-clause-through g c told =
    let v0 = g.D.Disk.state c.args.disk.now in
    let v1 = g.D.Disk.state c.read_standing.new.disk in
    let v2 = g.D.Disk.state c.settle.new.disk in
    let still = c.in_ok-contents.ensures.reads.still in
    let reads = g.met.D.Disk.reads_image c.args.disk.now in
    let only_now = g.met.D.Disk.only_now c.args.disk.now in
    let f = c.in_ok-contents.contents.found in
    let r = c.in_ok-contents.ensures.read told in
    open_through g.D.Disk.tells v0 v1 v2 still reads only_now c.in-Ok.field-0 r.0 f.second f.other_open
    c.in-Ok.ensures r.1.stands r.1.other

pub returns-in-Err-clause-moments : goal.returns-in-Err-clause-moments
returns-in-Err-clause-moments g c all told =
    let v0 = g.D.Disk.state c.args.disk.now in
    let v1 = g.D.Disk.state c.read_standing.new.disk in
    let v2 = g.D.Disk.state c.settle.new.disk in
    let still = c.in_ok-contents.ensures.reads.still in
    let reads = g.met.D.Disk.reads_image c.args.disk.now in
    let only_now = g.met.D.Disk.only_now c.args.disk.now in
    let f = c.in_ok-contents.contents.found in
    let r = c.in_ok-contents.ensures.read told in
    open_moments g.D.Disk.tells v0 v1 v2 still reads only_now (Err c.in-Err.field-0) r.0 f.second f.other_open
    c.in-Err.ensures r.1.stands r.1.second r.1.other all told

pub returns-in-Err-clause-stopped : goal.returns-in-Err-clause-stopped
returns-in-Err-clause-stopped g c disk all told steady s is =
    let v0 = g.D.Disk.state c.args.disk.now in
    let v1 = g.D.Disk.state c.read_standing.new.disk in
    let v2 = g.D.Disk.state c.settle.new.disk in
    let still = c.in_ok-contents.ensures.reads.still in
    let reads = g.met.D.Disk.reads_image c.args.disk.now in
    let only_now = g.met.D.Disk.only_now c.args.disk.now in
    let f = c.in_ok-contents.contents.found in
    let r = c.in_ok-contents.ensures.read told in
    open_stopped g.D.Disk.tells v0 v1 v2 still reads only_now c.in-Err.field-0 r.0 s f.second f.other_open
    c.in-Err.ensures r.1.stands r.1.second r.1.other all told steady is
