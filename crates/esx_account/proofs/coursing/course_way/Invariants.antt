use Rattle.std.proofs.Common.{List, take}
use Rattle.esx_events.specs.declared.event.Event.{Event}
use Rattle.esx_story.specs.Moments.{moments}
use Rattle.esx_passages.specs.Passages.{passings}
use Rattle.esx_course.specs.Courses.{IsCourse}
use Rattle.esx_paths.specs.declared.mets.Met.{Met}
use Rattle.esx_account.specs.Coursing.{AreChangesOf}
use Rattle.esx_account.specs.Surveying.{IsWay}
use Rattle.esx_account.proofs.coursing.course_way.Given as goal

abbrev pub invariant-loop-at : goal.invariant-loop-at
invariant-loop-at l = record {
  course : (mets : List Met) (es : List Event) → IsWay l.fn.site l.requests l.waypoints mets es → IsCourse l.fn.site (take l.at es) l.course;
  lines : (mets : List Met) (es : List Event) → IsWay l.fn.site l.requests l.waypoints mets es → AreChangesOf l.waypoints (passings (moments l.fn.site (take l.at es))) l.lines.items;
}
