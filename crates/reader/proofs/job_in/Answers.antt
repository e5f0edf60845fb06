-- `job_in` meets its contract: its slices are the bodies.
use mathlib.Core.Path.{ap, ◌∙◌}
use Rattle.job.specs.Job.{job_value}
use Rattle.reader.proofs.ContentsLaws.{places_rise, slices_fit_decode, slices_say_job}
use native.Mathlib.Omega.{arith}
use Rattle.reader.proofs.job_in.Goals as goal

pub slice_bounds-decode-count : goal.slice_bounds-decode-count
slice_bounds-decode-count c =
    let rise = places_rise c.args.file.now c.args.layout c.requires.0 _ c.places-at.ensures in
    omega arith

pub slice_bounds-decode-count-2 : goal.slice_bounds-decode-count-2
slice_bounds-decode-count-2 c =
    let rise = places_rise c.args.file.now c.args.layout c.requires.0 _ c.places-at.ensures in
    omega arith

pub slice_bounds-decode-count-3 : goal.slice_bounds-decode-count-3
slice_bounds-decode-count-3 c =
    let rise = places_rise c.args.file.now c.args.layout c.requires.0 _ c.places-at.ensures in
    omega arith

pub slice_bounds-decode-count-4 : goal.slice_bounds-decode-count-4
slice_bounds-decode-count-4 c =
    let rise = places_rise c.args.file.now c.args.layout c.requires.0 _ c.places-at.ensures in
    omega arith

pub slice_bounds-decode-count-5 : goal.slice_bounds-decode-count-5
slice_bounds-decode-count-5 c =
    let rise = places_rise c.args.file.now c.args.layout c.requires.0 _ c.places-at.ensures in
    omega arith

pub slice_bounds-decode-count-6 : goal.slice_bounds-decode-count-6
slice_bounds-decode-count-6 c =
    let rise = places_rise c.args.file.now c.args.layout c.requires.0 _ c.places-at.ensures in
    omega arith

pub decode-requires : goal.decode-requires
decode-requires c =
    let f = slices_fit_decode c.args.file.now c.args.layout c.requires.0 in
    rw c.places-at.ensures record { in_bounds = f.0; pools_len_bound = (f.1, f.2); waits_len_bound = (f.4, f.5); stores_len_bound = f.3 }

pub returns : goal.returns
returns c =
    c.decode.ensures
    ∙ (rw c.places-at.ensures (ap job_value (slices_say_job c.args.file.now c.args.layout c.requires.0)))
